-- The ways of the table for methods of objects and classes, by the words before the key (ECMA-262, 13th edition, 15.4 to 15.8).
use Rattle.std.proofs.Common.{◌≡◌, ℕ, Bool, true, false, cond, List, [], ◌∷◌, ◌++◌, refl}
use Rattle.std.specs.Prelude.{not, ◌&&◌, ◌||◌}
use Rattle.std.proofs.lemmas.Bool.{false≢true}
use Rattle.tree.specs.declared.kind.Kind.{Kind}
use Rattle.tree.specs.declared.kind.Kind.TheVariants.{MethodDefinition, FunctionExpression}
use Rattle.tree.specs.declared.kind.Flags.{Flags}
use Rattle.tree.specs.declared.kind.Form.{Form}
use Rattle.tree.specs.declared.kind.Form.TheVariants.{Get, Set, Method, Init, Shorthand, Constructor, Generator, Async, AsyncGenerator}
use Rattle.tree.specs.Tree.{Tree, node, Parts, none, part, bare}
use Rattle.tree.specs.Uses.{is_lean}
use Rattle.language.specs.declared.Rank.TheVariants.{Primary}
use Rattle.language.specs.Expressions.{properties, assignment, method_words}
use Rattle.language.specs.Pieces.{Piece, method, key, private_name, Spelling, sp, sign, term, at as at_symbol, put}
use Rattle.language.specs.Vocabulary.{is, is_identifier, is_private}
use Rattle.language.specs.Statements.{class_members, static_word, is_string_literal}
use Rattle.language.specs.Strings.{literal_units}
use Rattle.language.specs.Derivation.{Among, first}
use Rattle.language.proofs.table.Productions.{in_true}
use Rattle.parser_tables.specs.declared.functions_and_classes.FunctionOrClass.TheVariants as closure
use Rattle.parser_tables.specs.StatementSymbols.{function_or_class_form, function_or_class_flags}
use Rattle.parser_tables.specs.Methods.{member_flags, method_form}
use Rattle.recursive_descent.specs.SoundnessOfLists.{is_called, names_constructor}

-- the words before the key, as the table lays them out
abbrev pub laid_words : Form → List Piece
laid_words Get = term "get" ∷ sp ∷ []
laid_words Set = term "set" ∷ sp ∷ []
laid_words f = method_words (function_or_class_form (closure.Method f))

-- the key, private or not, and what stands behind it
abbrev pub key_part : Bool → Bool → List Piece → List Piece
key_part c p after = cond c (sign "[" ∷ assignment ∷ sign "]" ∷ after) (put (cond p private_name key) ∷ after)

abbrev pub object_way : Bool → Form → Spelling
object_way c f = at_symbol Primary (laid_words f ++ key_part c false (put (method f) ∷ []))

abbrev pub member_way : Bool → Bool → Form → Bool → Spelling
member_way b c f p = at_symbol Primary ((static_word b ++ laid_words f) ++ key_part c p (put (method f) ∷ []))

-- the function of such a method
abbrev pub function_at : Form → List ℕ → ℕ → ℕ → Parts → Tree
function_at f w from to qs = node FunctionExpression w (function_or_class_flags (closure.Method f)) from to qs

pub object_listed : (b c : Bool) (f : Form) → is_called f ≡ true → Among (object_way c f) (properties c (method_form b f false) (function_or_class_form (closure.Method f)))
object_listed b true Get h = first
object_listed b false Get h = first
object_listed b true Set h = first
object_listed b false Set h = first
object_listed true true Method h = first
object_listed true false Method h = first
object_listed false true Method h = first
object_listed false false Method h = first
object_listed b true Generator h = first
object_listed b false Generator h = first
object_listed b true Async h = first
object_listed b false Async h = first
object_listed b true AsyncGenerator h = first
object_listed b false AsyncGenerator h = first
object_listed b c Init h = absurd (false≢true h)
object_listed b c Shorthand h = absurd (false≢true h)
object_listed b c Constructor h = absurd (false≢true h)

-- the value of a key is `constructor`
abbrev is_constructor : Kind → List ℕ → Bool
is_constructor k v = (is_identifier k && is v "constructor") || (is_string_literal k v && is (literal_units v) "constructor")

-- which of two forms a method of a class has
both_no : (c x : Bool) → true ≡ (not c && x) → (((not c && true) && x) && true) ≡ true
both_no true x e = cc
both_no false true e = refl
both_no false false e = cc

none_no : (c x : Bool) → false ≡ (not c && x) → not (((not c && true) && x) && true) ≡ true
none_no true x e = refl
none_no false true e = cc
none_no false false e = refl

static_no : (c x : Bool) → not (((not c && false) && x) && true) ≡ true
static_no true x = refl
static_no false x = refl

later_no : (x : Bool) → not (x && false) ≡ true
later_no true = refl
later_no false = refl

pub member_listed : (b c : Bool) (f : Form) (con : Bool) (k : Kind) (v w : List ℕ) (g : Flags) (st en from to : ℕ) (ps qs : Parts) → is_called f ≡ true → con ≡ names_constructor c (node k v g st en ps) →
    Among (member_way b c f (is_private k)) (class_members MethodDefinition (member_flags c b (method_form b f con)) (part (node k v g st en ps) (part (function_at f w from to qs) none)))
member_listed b true Get con k v w g st en from to ps qs h e = first
member_listed b false Get con k v w g st en from to ps qs h e = first
member_listed b true Set con k v w g st en from to ps qs h e = first
member_listed b false Set con k v w g st en from to ps qs h e = first
member_listed true true Method con k v w g st en from to ps qs h e = first
member_listed true false Method con k v w g st en from to ps qs h e = in_true [] _ (static_no false (is_constructor k v)) first
member_listed false true Method true k v w g st en from to ps qs h e = cc
member_listed false true Method false k v w g st en from to ps qs h e = first
member_listed false false Method true k v w g st en from to ps qs h e = in_true [] _ (both_no false (is_constructor k v) e) first
member_listed false false Method false k v w g st en from to ps qs h e = in_true [] _ (none_no false (is_constructor k v) e) first
member_listed b true Generator con k v w g st en from to ps qs h e = in_true [] _ (later_no ((not true && not b) && is_constructor k v)) first
member_listed b false Generator con k v w g st en from to ps qs h e = in_true [] _ (later_no ((not false && not b) && is_constructor k v)) first
member_listed b true Async con k v w g st en from to ps qs h e = in_true [] _ (later_no ((not true && not b) && is_constructor k v)) first
member_listed b false Async con k v w g st en from to ps qs h e = in_true [] _ (later_no ((not false && not b) && is_constructor k v)) first
member_listed b true AsyncGenerator con k v w g st en from to ps qs h e = in_true [] _ (later_no ((not true && not b) && is_constructor k v)) first
member_listed b false AsyncGenerator con k v w g st en from to ps qs h e = in_true [] _ (later_no ((not false && not b) && is_constructor k v)) first
member_listed b c Init con k v w g st en from to ps qs h e = absurd (false≢true h)
member_listed b c Shorthand con k v w g st en from to ps qs h e = absurd (false≢true h)
member_listed b c Constructor con k v w g st en from to ps qs h e = absurd (false≢true h)

pub member_lean : (c b : Bool) (f : Form) (st en : ℕ) (ps : Parts) → is_lean (bare (node MethodDefinition [] (member_flags c b f) st en ps)) ≡ true
member_lean true true Init st en ps = refl
member_lean true true _ st en ps = refl
member_lean true false Init st en ps = refl
member_lean true false _ st en ps = refl
member_lean false true Init st en ps = refl
member_lean false true _ st en ps = refl
member_lean false false Init st en ps = refl
member_lean false false _ st en ps = refl
