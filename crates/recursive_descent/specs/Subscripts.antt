-- What follows the object of a member, a callee or a tag.
use Rattle.std.specs.Prelude.{ℕ, Bool, true, false, cond, List, Option, Some, None}
use Rattle.language.specs.declared.Rank.{Rank}
use Rattle.language.specs.declared.Rank.TheVariants.{Call, Member}
use Rattle.language.specs.Vocabulary.{is}
use Rattle.tree.specs.declared.kind.Kind.{Kind}
use Rattle.tree.specs.declared.kind.Kind.TheVariants.{CallExpression, TaggedTemplateExpression, MemberExpression}
use Rattle.tree.specs.declared.kind.Flags.{Flags}
use Rattle.tree.specs.Tree.{plain}
use Rattle.tokens.specs.declared.token.TokenClass.{TokenClass}
use Rattle.tokens.specs.declared.token.TokenClass.TheVariants.{IdentifierName as a_name, Keyword, PrivateName, Punctuator, Template}
use Rattle.recursive_descent.specs.declared.subscripts.Subscript.{Subscript}
use Rattle.recursive_descent.specs.declared.subscripts.Subscript.TheVariants.{Name, Index, Arguments, Quasi}

-- the kind of the node
abbrev pub link_kind : Subscript → Kind
link_kind Arguments = CallExpression
link_kind Quasi = TaggedTemplateExpression
link_kind _ = MemberExpression

abbrev pub is_index : Subscript → Bool
is_index Index = true
is_index _ = false

-- its flags
abbrev pub link_flags : Subscript → Bool → Flags
link_flags l optional = record plain { computed = is_index l; optional = optional }

-- its symbol: what begins with a call is a call's too
abbrev pub link_rank : Subscript → Bool → Rank
link_rank Arguments is_call = Call
link_rank _ true = Call
link_rank _ false = Member

-- what is a call's
abbrev pub is_calling : Rank → Bool
is_calling Call = true
is_calling _ = false

-- what follows, by the class and the text of its first token
abbrev pub link_by : TokenClass → List ℕ → Option Subscript
link_by Template w = Some Quasi
link_by Punctuator w = cond (is w "[") (Some Index) (cond (is w "(") (Some Arguments) None)
link_by a_name w = Some Name
link_by Keyword w = Some Name
link_by PrivateName w = Some Name
link_by _ w = None
