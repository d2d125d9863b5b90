-- What a token makes of the expression before it, by its class; and where it goes on.
use Rattle.std.proofs.Common.{◌≡◌, ℕ, Bool, true, false, List, refl, sym, ap, ◌∙◌}
use Rattle.std.specs.Prelude.{IsTrue, not, ◌&&◌, ◌||◌, Option, Some, None, codes}
use Rattle.std.proofs.lemmas.Bool.{and_right}
use Rattle.std.proofs.lemmas.Slice.Eq.{bytes_eq-Decides}
use Rattle.tokens.specs.declared.token.TokenClass.{TokenClass}
use Rattle.tokens.specs.declared.token.TokenClass.TheVariants.{IdentifierName, Punctuator, NumericLiteral, StringLiteral, Template, RegularExpressionLiteral, PrivateName, Keyword, End}
use Rattle.tokens.specs.declared.token.Goal.TheVariants.{Div}
use Rattle.tokens.specs.Tokens.{LexicalToken}
use Rattle.language.specs.declared.Rank.{Rank}
use Rattle.language.specs.declared.Edge.{Edge}
use Rattle.language.specs.Vocabulary.{is, takes, Operator, op_binary, op_power, op_assign, op_update, op_comma, op_question, op_dot, op_call, op_index, op_optional, op_arrow, op_template, op_none}
use Rattle.language.specs.Token.{Token, table_text, as_read, same_class, is_token}
use Rattle.language.specs.Continuations.{of_class, operation, rank_made_by, holds, stops_at}
use Rattle.token_cursor.specs.SourceText.{SourceText}
use Rattle.token_cursor.specs.CursorState.{IsAhead, NoneAhead}
use Rattle.parser_tables.specs.declared.expression_context.ExpressionContext.{ExpressionContext}
use Rattle.grammar.specs.declared.infix.InfixOperator.{InfixOperator as Coded}
use Rattle.grammar.specs.Infix.{coded_operator, meant, links}
use Rattle.parser_tables.specs.Operators.{stops_by, StopsHere}
use Rattle.token_cursor.proofs.TokensAhead.{none_ahead, of_ahead}

-- what a token makes, by its class
pub sign_operation : (t : LexicalToken) → t.class ≡ Punctuator → coded_operator (of_class Punctuator t.text) t.text ≡ coded_operator (operation (as_read t)) t.text
sign_operation t c = ap (λ x. coded_operator x t.text) (sym (ap (λ d. of_class d (table_text d t.text)) c))

pub name_operation : (t : LexicalToken) → t.class ≡ IdentifierName → coded_operator (of_class IdentifierName t.text) t.text ≡ coded_operator (operation (as_read t)) t.text
name_operation t c = ap (λ x. coded_operator x t.text) (sym (ap (λ d. of_class d (table_text d t.text)) c))

-- the symbol of what the code has for an operator is the operator's
symbol_if : Option Coded → Bool → Option Rank
symbol_if None b = None
symbol_if (Some c) b = rank_made_by (meant c) b

pub symbol_same : (c : Coded) (b : Bool) (x : Operator) (w : List ℕ) → coded_operator x w ≡ Some c → rank_made_by x b ≡ rank_made_by (meant c) b
unfolding symbol_if
symbol_same c b x w h = of x ∙ ap (λ o. symbol_if o b) h
  where
    of : (x : Operator) → rank_made_by x b ≡ symbol_if (coded_operator x w) b
    of (op_binary true z q) = refl
    of (op_binary false z q) = refl
    of op_power = refl
    of op_assign = refl
    of op_update = refl
    of op_comma = refl
    of op_question = refl
    of op_dot = refl
    of op_call = refl
    of op_index = refl
    of op_optional = refl
    of op_arrow = refl
    of op_template = refl
    of op_none = refl

-- only the word `in` has this text, of what makes a node
in_class : (c : TokenClass) (w : List ℕ) (b : Bool) (z : Rank) → w ≡ codes "in" → rank_made_by (of_class c w) b ≡ Some z → c ≡ IdentifierName
in_class IdentifierName w b z e h = refl
in_class Punctuator w b z e h = let u : None ≡ Some z = sym (ap (λ v. rank_made_by (of_class Punctuator v) b) e) ∙ h in cc
in_class Template w b z e h = let u : None ≡ Some z = sym (ap (λ v. rank_made_by (of_class Template v) b) e) ∙ h in cc
in_class NumericLiteral w b z e h = cc
in_class StringLiteral w b z e h = cc
in_class RegularExpressionLiteral w b z e h = cc
in_class PrivateName w b z e h = cc
in_class Keyword w b z e h = cc
in_class End w b z e h = cc

in_word : (t : Token) (z : Rank) → rank_made_by (operation t) t.after_break ≡ Some z → is_token IdentifierName (codes "in") t ≡ is t.text "in"
in_word t z h = of (is t.text "in") refl
  where
    of : (b : Bool) → is t.text "in" ≡ b → is_token IdentifierName (codes "in") t ≡ is t.text "in"
    of true e = ap (λ c. same_class IdentifierName c && is t.text "in") (in_class t.class t.text t.after_break z ((bytes_eq-Decides t.text (codes "in")).0 e) h)
    of false e = and_right (same_class IdentifierName t.class) (is t.text "in") e ∙ sym e

shuffled : (a b c : Bool) → (not a || (b || not c)) ≡ (b || (not a || not c))
shuffled true true c = refl
shuffled true false c = refl
shuffled false true c = refl
shuffled false false c = refl

-- whether a token goes on that makes a node at a symbol
pub decides : (p : ExpressionContext) (x : Edge) (t : Token) (z : Rank) (b : Bool) → rank_made_by (operation t) t.after_break ≡ Some z →
    ((is_token IdentifierName (codes "in") t && not p.has_in) || (not (takes p.rank z) || not (holds x z))) ≡ b → stops_by p x t ≡ b
decides p x t z b h k =
    ap (stops_at p.rank p.has_in x t) h
    ∙ shuffled (takes p.rank z) (is t.text "in" && not p.has_in) (holds x z)
    ∙ ap (λ v. (v && not p.has_in) || (not (takes p.rank z) || not (holds x z))) (sym (in_word t z h))
    ∙ k

none_made : (x : Operator) (w : List ℕ) → coded_operator x w ≡ None → x ≡ op_none
none_made op_none w h = refl
none_made (op_binary l z q) w h = cc
none_made op_power w h = cc
none_made op_assign w h = cc
none_made op_update w h = cc
none_made op_comma w h = cc
none_made op_question w h = cc
none_made op_dot w h = cc
none_made op_call w h = cc
none_made op_index w h = cc
none_made op_optional w h = cc
none_made op_arrow w h = cc
none_made op_template w h = cc

pub stops_unmade : (p : ExpressionContext) (x : Edge) (t : Token) (w : List ℕ) → coded_operator (operation t) w ≡ None → stops_by p x t ≡ true
stops_unmade p x t w h = ap (λ o. stops_at p.rank p.has_in x t (rank_made_by o t.after_break)) (none_made (operation t) w h)

pub stops_unplaced : (p : ExpressionContext) (x : Edge) (t : Token) → rank_made_by (operation t) t.after_break ≡ None → stops_by p x t ≡ true
stops_unplaced p x t h = ap (stops_at p.rank p.has_in x t) h

-- where the token ahead can't go on, nothing can
pub stops_ahead : (text : SourceText) (p : ExpressionContext) (x : Edge) (s : Token) (u : LexicalToken) → IsAhead Div text s.stop u → stops_by p x (as_read u) ≡ true → StopsHere text p x s
stops_ahead text p x s u a h = of_ahead text (λ t. IsTrue (stops_by p x t)) Div s u a h

pub stops_none : (text : SourceText) (p : ExpressionContext) (x : Edge) (s : Token) → NoneAhead Div text s.stop → StopsHere text p x s
stops_none text p x s none t m r = absurd (none_ahead text Div s none t m r)

-- what goes on with a chain, in the code as in the definition
links_if : Option Coded → Bool
links_if None = false
links_if (Some c) = links (meant c)

pub links_same : (c : Coded) (x : Operator) (w : List ℕ) → coded_operator x w ≡ Some c → links x ≡ links (meant c)
unfolding links_if
links_same c x w h = of x ∙ ap links_if h
  where
    of : (x : Operator) → links x ≡ links_if (coded_operator x w)
    of (op_binary true z q) = refl
    of (op_binary false z q) = refl
    of op_power = refl
    of op_assign = refl
    of op_update = refl
    of op_comma = refl
    of op_question = refl
    of op_dot = refl
    of op_call = refl
    of op_index = refl
    of op_optional = refl
    of op_arrow = refl
    of op_template = refl
    of op_none = refl
