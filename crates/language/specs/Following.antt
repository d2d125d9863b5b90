-- What a function promises that reads what ends where the next token says: a statement, a case, a declarator, an item of a list. `Fine`
-- says what holds of such a node and of the place behind it, once something follows that may.
use Rattle.std.specs.Prelude.{◌≡◌, ℕ, Bool, true, not, ◌&&◌, ◌||◌, List, [], ◌∷◌, codes, ◌⊎◌}
use Rattle.tokens.specs.declared.token.TokenClass.TheVariants.{IdentifierName, Punctuator, Template}
use Rattle.tokens.specs.declared.token.Goal.TheVariants.{RegExp}
use Rattle.tokens.specs.Alphabet.{one_of, begins_with}
use Rattle.tree.specs.declared.kind.Pair.{Pair}
use Rattle.tree.specs.Tree.{Tree, Parts}
use Rattle.language.specs.declared.Rank.TheVariants.{Assignment}
use Rattle.language.specs.Vocabulary.{is, among}
use Rattle.language.specs.Pieces.{Role, PieceOf}
use Rattle.language.specs.Token.{Token, same_class}
use Rattle.language.specs.Edges.{ends_in_if, is_sign, is_end}
use Rattle.language.specs.StatementStart.{begins_item}
use Rattle.language.specs.Promises.{ReadBy, Stops}
use Rattle.language.specs.Grammar.{ways}
use Rattle.language.specs.Derivation.{Reads, Spells, Runs}

-- the token ends a list of statements: `}`, the end of the text, the next case, or an export among a module's items
abbrev pub ends_list : Token → Bool
ends_list next = is_end next || ((is_sign next && among next.text ("}" ∷ [])) || (same_class IdentifierName next.class && among next.text ("case" ∷ "default" ∷ "export" ∷ [])))

-- it may follow a statement; the flag says that the statement ends in an `if` without `else`
abbrev pub may_follow : Bool → Token → Bool
may_follow b next = begins_item next || (ends_list next || (same_class IdentifierName next.class && (is next.text "else" && not b)))

module _ (S : Type 0) (Next : S → Token → S → Type 0) (behind : S → Token) where
  -- what is read at one place begins with `}` by each goal, or by none; and what does is a sign or a part of a template
  pub record IsAlike : Type 0 where
    pub brace : (s : S) (a b : Token) (e f : S) → Next s a e → Next s b f → begins_with (one_of "}") a.text ≡ begins_with (one_of "}") b.text
    pub sort : (s : S) (a : Token) (e : S) → Next s a e → begins_with (one_of "}") a.text ≡ true → (a.class ≡ Punctuator) ⊎ (a.class ≡ Template)

  -- such a token is read here
  pub record Followed (b : Bool) (e : S) : Type 0 where
    pub token : Token
    pub mid : S
    pub read : ReadBy S Next behind RegExp e token mid
    pub follows : may_follow b token ≡ true

  -- a token is read here that ends a list of statements
  pub record ListEnds (e : S) : Type 0 where
    pub token : Token
    pub mid : S
    pub read : ReadBy S Next behind RegExp e token mid
    pub ends : ends_list token ≡ true

  -- the declarator that ends here can't go on: neither its value, nor with one (13.3)
  pub record Declared (i : Bool) (n : Tree) (e : S) : Type 0 where
    pub stopped : Stops S Next behind Assignment i n e
    pub no_value : (t : Token) (m : S) → Reads S Next behind Punctuator (codes "=") e t m → ⊥

  -- the only thing that the position spells here with what may follow; nothing; nothing within the limits
  pub record FoundWhere (Fine : Tree → S → Type 0) (o : ℕ) (a : Role) (s e : S) (n : Tree) (P : List Pair) : Type 0 where
    pub spelled : Spells ways S Next behind o a n s e P
    pub only : (o' : ℕ) (e' : S) (n' : Tree) (P' : List Pair) → Spells ways S Next behind o' a n' s e' P' → Fine n' e' → (e' ≡ e) × (n' ≡ n) × (P' ≡ P)

  -- the only parts over which pieces run here with what may follow
  pub record FoundPartsWhere (Fine : Parts → S → Type 0) (o : ℕ) (pieces : Parts → List (PieceOf Role)) (s e : S) (ps : Parts) (P : List Pair) : Type 0 where
    pub runs : Runs ways S Next behind o (pieces ps) ps s e P
    pub only : (o' : ℕ) (e' : S) (ps' : Parts) (P' : List Pair) → Runs ways S Next behind o' (pieces ps') ps' s e' P' → Fine ps' e' → (e' ≡ e) × (ps' ≡ ps) × (P' ≡ P)

  pub record AbsentPartsWhere (Fine : Parts → S → Type 0) (pieces : Parts → List (PieceOf Role)) (s : S) : Type 0 where
    pub nothing : (o' : ℕ) (e' : S) (ps' : Parts) (P' : List Pair) → Runs ways S Next behind o' (pieces ps') ps' s e' P' → Fine ps' e' → ⊥

-- something follows the statement that may
abbrev pub Finished : (S : Type 0) (Next : S → Token → S → Type 0) (behind : S → Token) → Tree → S → Type 0
Finished S Next behind n e = Followed S Next behind (ends_in_if n) e
