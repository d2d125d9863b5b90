-- Properties and members: their flags, their kind, and the constructor (ECMA-262 12.2.6, 14.3, 14.6).
use Rattle.std.specs.Prelude.{ℕ, List, codes, Bool, true, false, not, cond, ◌&&◌}
use Rattle.std.specs.Str.{bytes_eq, chars}
use Rattle.tokens.specs.declared.token.TokenClass.{TokenClass}
use Rattle.tokens.specs.declared.token.TokenClass.TheVariants.{IdentifierName, StringLiteral}
use Rattle.tokens.specs.Strings.{string_units}
use Rattle.language.specs.Vocabulary.{is}
use Rattle.tree.specs.declared.kind.Kind.{Kind}
use Rattle.tree.specs.declared.kind.Kind.TheVariants.{MethodDefinition, Property}
use Rattle.tree.specs.declared.kind.Flags.{Flags}
use Rattle.tree.specs.declared.kind.Form.{Form}
use Rattle.tree.specs.declared.kind.Form.TheVariants.{Constructor, Method, Generator, Async, AsyncGenerator}
use Rattle.tree.specs.Tree.{plain}

-- the flags of a property, or of a member
abbrev pub member_flags : Bool → Bool → Form → Flags
member_flags computed is_static form = record plain { computed = computed; is_static = is_static; form = form }

-- a method that isn't static, and whose key is `constructor`, is the constructor (14.6); a generator or async function is a method
abbrev pub method_form : Bool → Form → Bool → Form
method_form is_static Method names_constructor = cond (not is_static && names_constructor) Constructor Method
method_form is_static Generator names_constructor = Method
method_form is_static Async names_constructor = Method
method_form is_static AsyncGenerator names_constructor = Method
method_form is_static form names_constructor = form

abbrev pub member_kind : Bool → Kind
member_kind true = MethodDefinition
member_kind false = Property

-- the value of a name or a string as a key is `constructor`; a number's is none
abbrev pub is_constructor : TokenClass → List ℕ → Bool
is_constructor IdentifierName w = is w "constructor"
is_constructor StringLiteral w = bytes_eq (string_units (chars w)) (codes "constructor")
is_constructor _ w = false
