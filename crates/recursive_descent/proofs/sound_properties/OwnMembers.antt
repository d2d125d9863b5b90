-- Properties and members are of the text's language where their parts are.
use Rattle.std.proofs.Common.{◌≡◌, ℕ, Bool, false, true, List, [], refl, sym, ap, ◌∙◌, subst}
use Rattle.std.specs.Prelude.{Option}
use Rattle.std.proofs.lemmas.Bool.{false≢true}
use Rattle.tokens.specs.Scanned.{token_of}
use Rattle.tokens.specs.Tokens.{LexicalToken}
use Rattle.tokens.specs.declared.token.Token.{Token as Scanned}
use Rattle.tokens.specs.declared.token.TokenClass.{TokenClass}
use Rattle.tokens.specs.declared.token.TokenClass.TheVariants.{IdentifierName, Keyword, PrivateName}
use Rattle.tree.specs.declared.kind.Kind.{Kind}
use Rattle.tree.specs.declared.kind.Kind.TheVariants.{Identifier, Property, AssignmentExpression, SpreadElement}
use Rattle.tree.specs.declared.kind.Flags.{Flags}
use Rattle.tree.specs.declared.kind.Form.{Form}
use Rattle.tree.specs.declared.kind.Form.TheVariants.{Init, Get, Set, Method, Generator, Async, AsyncGenerator}
use Rattle.tree.specs.Tree.{Tree, node, plain, part, none, height}
use Rattle.language.specs.declared.Language.TheVariants.{Base}
use Rattle.language.specs.Later.{is_later_form, is_later_kind}
use Rattle.language.specs.Languages.{is_of_2022}
use Rattle.language.specs.Token.{Token}
use Rattle.parser_tables.specs.StatementSymbols.{function_or_class_form}
use Rattle.parser_tables.specs.declared.functions_and_classes.FunctionOrClass.TheVariants as closure
use Rattle.recursive_descent.specs.Later.{FormOfLanguage}
use Rattle.recursive_descent.specs.Modifiers.{MethodWords, no_words, a_star, async_word, async_star, async_named, Accessed, gets, sets, get_named, set_named, neither, Modifying, in_object, not_static, static_named, static}
use Rattle.parser_tables.specs.Methods.{member_flags, member_kind, method_form}
use Rattle.parser_tables.specs.Tokens.{key_node, key_node_by, single_node}
use Rattle.recursive_descent.specs.Spelled.{OfLanguage}
use Rattle.recursive_descent.proofs.reading.LanguageTrees.{of_node, of_part, of_none}
use Rattle.token_cursor.specs.SourceText.{SourceText}

-- the key that a token makes is one node
pub key_height : (t : LexicalToken) → height (key_node t) ≡ 1
key_height t = of t.class
  where
    of : (c : TokenClass) → height (key_node_by c t) ≡ 1
    of IdentifierName = refl
    of Keyword = refl
    of PrivateName = refl
    of _ = refl

method_plain : (b : Bool) (f : Form) (c : Bool) → is_later_form (method_form b f c) ≡ false
method_plain true Init c = refl
method_plain true Get c = refl
method_plain true Set c = refl
method_plain true _ c = refl
method_plain false Init c = refl
method_plain false Get c = refl
method_plain false Set c = refl
method_plain false Method true = refl
method_plain false Method false = refl
method_plain false _ c = refl

no_base : {A : Type 0} (text : SourceText) → is_of_2022 text.language ≡ true → text.language ≡ Base → A
no_base text l b = absurd (false≢true (sym (ap is_of_2022 b) ∙ l))

pub method_language : (text : SourceText) (f : Form) → FormOfLanguage text f → FormOfLanguage text (function_or_class_form (closure.Method f))
method_language text Generator h b = h b
method_language text Async h b = h b
method_language text AsyncGenerator h b = h b
method_language text _ h b = refl

module _ {text : SourceText} where
  pub single_owned : (t : LexicalToken) → OfLanguage text (single_node Identifier t)
  single_owned t = of_node (λ b. refl) of_none

  pub two_owned : {k v n : Tree} {c : Kind} {w : List ℕ} {g : Flags} {st en : ℕ} → (text.language ≡ Base → Rattle.language.specs.Later.is_later (node c w g st en (part k (part v none))) ≡ false) → n ≡ node c w g st en (part k (part v none)) → OfLanguage text k → OfLanguage text v → OfLanguage text n
  two_owned none_later is a b = subst (λ z. OfLanguage text z) (sym is) (of_node none_later (of_part a (of_part b of_none)))

  pub property_owned : {k v n : Tree} {c : Bool} {f : Form} {st en : ℕ} → is_later_form f ≡ false → n ≡ node Property [] (member_flags c false f) st en (part k (part v none)) → OfLanguage text k → OfLanguage text v → OfLanguage text n
  property_owned plain_form is a b = two_owned (λ l. plain_form) is a b

  pub assignment_owned : {k v n : Tree} {w : List ℕ} {st en : ℕ} → n ≡ node AssignmentExpression w plain st en (part k (part v none)) → OfLanguage text k → OfLanguage text v → OfLanguage text n
  assignment_owned is a b = two_owned (λ l. refl) is a b

  pub method_owned : (in_class : Bool) (f : Form) (b x : Bool) {k v n : Tree} {c : Bool} {st en : ℕ} → n ≡ node (member_kind in_class) [] (member_flags c b (method_form b f x)) st en (part k (part v none)) → OfLanguage text k → OfLanguage text v → OfLanguage text n
  method_owned true f b x is a v = two_owned (λ l. method_plain b f x) is a v
  method_owned false f b x is a v = two_owned (λ l. method_plain b f x) is a v

  pub spread_owned : {k n : Tree} {st en : ℕ} → n ≡ node SpreadElement [] plain st en (part k none) → OfLanguage text k → OfLanguage text n
  spread_owned is a = subst (λ z. OfLanguage text z) (sym is) (of_node (λ b. refl) (of_part a of_none))

  -- the words before a name that the base profile has give none of the later forms
  words_form : {s e : Token} {f : Form} {name : Option Scanned} → MethodWords text s e f name → FormOfLanguage text f
  words_form (no_words p h) b = refl
  words_form (a_star l r) b = no_base text l b
  words_form (async_word l r sees m) b = no_base text l b
  words_form (async_star l r sees st) b = no_base text l b
  words_form (async_named l r quiet t) b = refl

  accessed_form : {s e : Token} {f : Form} {name : Option Scanned} → Accessed text s e f name → FormOfLanguage text f
  accessed_form (gets h) b = refl
  accessed_form (sets h) b = refl
  accessed_form (get_named h) b = refl
  accessed_form (set_named h) b = refl
  accessed_form (neither p q h) b = words_form h b

  pub form_owned : {s e : Token} {in_class is_static : Bool} {f : Form} {name : Option Scanned} → Modifying text s e in_class is_static f name → FormOfLanguage text f
  form_owned (in_object h) b = accessed_form h b
  form_owned (not_static p h) b = accessed_form h b
  form_owned (static_named h) b = refl
  form_owned (static h p) b = accessed_form p b

  -- a word that is the name itself
  pub word_owned : (t : Scanned) → t.class ≡ IdentifierName → OfLanguage text (key_node (token_of t))
  word_owned t h = subst (λ c. OfLanguage text (key_node_by c (token_of t))) (sym h) (single_owned (token_of t))
