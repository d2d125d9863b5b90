-- Derivations. S is where a token may be read; Next s t e says that behind s the token t is read, and that reading goes on
-- at e; behind s is the token before s.
use Rattle.std.specs.Prelude.{◌≡◌, ℕ, suc, ◌+◌, ◌-◌, true, false, cond, List, [], ◌∷◌, ◌++◌, Bool, IsTrue, codes}
use Rattle.tokens.specs.declared.token.TokenClass.{TokenClass}
use Rattle.tokens.specs.declared.token.TokenClass.TheVariants.{IdentifierName, Punctuator, Keyword}
use Rattle.language.specs.declared.Rank.{Rank}
use Rattle.language.specs.declared.Rank.TheVariants.{Expression}
use Rattle.language.specs.declared.Start.{Start}
use Rattle.language.specs.declared.Start.TheVariants.{Any}
use Rattle.tree.specs.declared.kind.Pair.{Pair}
use Rattle.tree.specs.declared.kind.Kind.TheVariants.{Identifier}
use Rattle.tree.specs.Tree.{Tree, node, plain, Parts, none, part, gap, start_of, stop_of, parts_of}
use Rattle.language.specs.Pieces.{Role, expr, word, key, template_element, shorthand_key, script, Ending, PieceOf, tok, may, many, ahead, unbroken, no_operand, ending, open_parameters, close_parameters, sub, absent, lay, Hint}
use Rattle.language.specs.Token.{Token}
use Rattle.language.specs.Vocabulary.{is_keyword}
use Rattle.language.specs.Edges.{may_omit_semicolon, begins_no_operand}

pub data Among {X : Type 0} (x : X) : List X → Type 0 where
  first : {xs : List X} → Among x (x ∷ xs)
  later : {y : X} {xs : List X} → Among x xs → Among x (y ∷ xs)

-- the start and the stop of a node at a position, from its first token and its last; a shorthand key has the token that follows
abbrev pub place : Role → Token → Token → ℕ × ℕ
place shorthand_key t l = (t.start, t.stop)
place (template_element b c) t l = (t.start + 1, l.stop - cond c 1 2)
place script t l = (0, l.stop)
place _ t l = (t.start, l.stop)

-- the pair of an opening and a closing parenthesis
abbrev pub pair_of : Token → Token → Pair
pair_of left right = record { left = left.start; right = right.start }

module _ (S : Type 0) (Next : S → Token → S → Type 0) (behind : S → Token) where
  -- a token of this class and text is read
  pub record Reads (c : TokenClass) (w : List ℕ) (s : S) (t : Token) (e : S) : Type 0 where
    pub next : Next s t e
    pub class : t.class ≡ c
    pub text : t.text ≡ w

  -- a piece that is no node
  pub data Step : PieceOf Role → S → S → Type 0 where
    token : {c : TokenClass} {w : List ℕ} {t : Token} {s e : S} → Reads c w s t e → Step (tok c w) s e
    with_mark : {w : List ℕ} {t : Token} {s e : S} → Reads Punctuator w s t e → Step (may w) s e
    without_mark : {w : List ℕ} {s : S} → Step (may w) s s
    one_more : {w : List ℕ} {t : Token} {s m e : S} → Reads Punctuator w s t m → Step (many w) m e → Step (many w) s e
    no_more : {w : List ℕ} {s : S} → Step (many w) s s
    seen : {w : List ℕ} {t : Token} {s e : S} → Reads IdentifierName w s t e → Step (ahead w) s s
    same_line : {t : Token} {s e : S} → Next s t e → t.after_break ≡ false → Step unbroken s s
    left_bare : {t : Token} {s e : S} → Next s t e → IsTrue (begins_no_operand t) → Step no_operand s s
    explicit : {x : Ending} {t : Token} {s e : S} → Reads Punctuator (codes ";") s t e → Step (ending x) s e
    implicit : {x : Ending} {t : Token} {s e : S} → Next s t e → IsTrue (may_omit_semicolon x (behind s) t) → Step (ending x) s s
    laid : {h : Hint} {s : S} → Step (lay h) s s

  -- the node has the span that its first and its last token give it
  pub data Placed : Role → Tree → S → S → Type 0 where
    placed : {a : Role} {n : Tree} {t : Token} {s m e : S} → Next s t m → place a t (behind e) ≡ (start_of n, stop_of n) → Placed a n s e

-- Ways are the ways to spell a node directly at a position: those of the whole language (`ways`), or fewer.
module _ (Ways : Role → Tree → List (List (PieceOf Role))) (S : Type 0) (Next : S → Token → S → Type 0) (behind : S → Token) where
  mutual
    -- From s to e the tokens spell the node at the position, with at most o parentheses open at one point that group or hold the
    -- parameters of an arrow that isn't async; the list has the grouping pairs, in order of their opening parentheses.
    pub data Spells : ℕ → Role → Tree → S → S → List Pair → Type 0 where
      direct : {o : ℕ} {a : Role} {n : Tree} {s e : S} {P : List Pair} →
          (qs : List (PieceOf Role)) → Among qs (Ways a n) → Placed S Next behind a n s e → Runs o qs (parts_of n) s e P → Spells o a n s e P
      grouped : {o : ℕ} {y : Rank} {i : Bool} {f : Start} {n : Tree} {left right : Token} {s m l e : S} {P : List Pair} →
          Reads S Next behind Punctuator (codes "(") s left m → Spells o (expr Expression true Any) n m l P → Reads S Next behind Punctuator (codes ")") l right e →
          Spells (suc o) (expr y i f) n s e (pair_of left right ∷ P)
      -- a word that the language reserves is a name where any word is one: a key, and what stands behind a dot
      reserved_key : {o : ℕ} {n : Tree} {w : List ℕ} {t : Token} {s e : S} →
          Reads S Next behind Keyword w s t e → is_keyword w ≡ true → n ≡ node Identifier w plain t.start (behind e).stop none → Spells o key n s e []
      reserved_word : {o : ℕ} {n : Tree} {w : List ℕ} {t : Token} {s e : S} →
          Reads S Next behind Keyword w s t e → is_keyword w ≡ true → n ≡ node Identifier w plain t.start (behind e).stop none → Spells o word n s e []

    -- the pieces of a spelling run over the parts of the node
    pub data Runs : ℕ → List (PieceOf Role) → Parts → S → S → List Pair → Type 0 where
      done : {o : ℕ} {s : S} → Runs o [] none s s []
      step : {o : ℕ} {q : PieceOf Role} {qs : List (PieceOf Role)} {ps : Parts} {s m e : S} {P : List Pair} →
          Step S Next behind q s m → Runs o qs ps m e P → Runs o (q ∷ qs) ps s e P
      opened : {o : ℕ} {qs : List (PieceOf Role)} {ps : Parts} {t : Token} {s m e : S} {P : List Pair} →
          Reads S Next behind Punctuator (codes "(") s t m → Runs o qs ps m e P → Runs (suc o) (open_parameters ∷ qs) ps s e P
      closed : {o : ℕ} {qs : List (PieceOf Role)} {ps : Parts} {t : Token} {s m e : S} {P : List Pair} →
          Reads S Next behind Punctuator (codes ")") s t m → Runs (suc o) qs ps m e P → Runs o (close_parameters ∷ qs) ps s e P
      within : {o : ℕ} {a : Role} {qs : List (PieceOf Role)} {n : Tree} {ps : Parts} {s m e : S} {P Q : List Pair} →
          Spells o a n s m P → Runs o qs ps m e Q → Runs o (sub a ∷ qs) (part n ps) s e (P ++ Q)
      missing : {o : ℕ} {qs : List (PieceOf Role)} {ps : Parts} {s e : S} {P : List Pair} →
          Runs o qs ps s e P → Runs o (absent ∷ qs) (gap ps) s e P
