-- What runs over a list of pieces, by its first piece.
use Rattle.std.proofs.Common.{◌≡◌, ℕ, suc, List, [], ◌∷◌, ◌++◌, refl}
use Rattle.std.specs.Prelude.{codes}
use Rattle.tokens.specs.declared.token.TokenClass.{TokenClass}
use Rattle.tokens.specs.declared.token.TokenClass.TheVariants.{Punctuator}
use Rattle.tree.specs.declared.kind.Pair.{Pair}
use Rattle.tree.specs.Tree.{Tree, Parts, none, part, gap}
use Rattle.language.specs.Pieces.{Role, PieceOf, Hint, tok, may, lay, unbroken, sub, absent, never, open_parameters, close_parameters}
use Rattle.language.specs.Token.{Token}
use Rattle.language.specs.Grammar.{ways}
use Rattle.language.specs.Derivation.{Reads, Spells, Runs, done, step, opened, closed, within, missing, token, with_mark, without_mark, same_line, laid}

module _ (S : Type 0) (Next : S → Token → S → Type 0) (behind : S → Token) where
  -- nothing: no part, at the same place
  pub record Ended (ps : Parts) (s e : S) (P : List Pair) : Type 0 where
    pub parts : ps ≡ none
    pub place : s ≡ e
    pub pairs : P ≡ []

  -- over no piece nothing runs
  pub run_none : {o : ℕ} {ps : Parts} {s e : S} {P : List Pair} → Runs ways S Next behind o [] ps s e P → Ended ps s e P
  run_none done = record { parts = refl; place = refl; pairs = refl }

  -- a token, and the rest
  pub record AToken (o : ℕ) (c : TokenClass) (w : List ℕ) (qs : List (PieceOf Role)) (ps : Parts) (s e : S) (P : List Pair) : Type 0 where
    pub sign : Token
    pub mid : S
    pub reads : Reads S Next behind c w s sign mid
    pub runs : Runs ways S Next behind o qs ps mid e P

  -- a token is read first
  pub run_token : {o : ℕ} {c : TokenClass} {w : List ℕ} {qs : List (PieceOf Role)} {ps : Parts} {s e : S} {P : List Pair} → Runs ways S Next behind o (tok c w ∷ qs) ps s e P → AToken o c w qs ps s e P
  run_token (step (token {t = t} {e = m} h) d) = record { sign = t; mid = m; reads = h; runs = d }

  -- layout is passed over
  pub run_laid : {o : ℕ} {h : Hint} {qs : List (PieceOf Role)} {ps : Parts} {s e : S} {P : List Pair} → Runs ways S Next behind o (lay h ∷ qs) ps s e P → Runs ways S Next behind o qs ps s e P
  run_laid (step laid d) = d

  -- a comma that may trail, and the rest; or the rest
  pub data ATrailing (o : ℕ) (w : List ℕ) (qs : List (PieceOf Role)) (ps : Parts) (s e : S) (P : List Pair) : Type 0 where
    with_it : {t : Token} {m : S} → Reads S Next behind Punctuator w s t m → Runs ways S Next behind o qs ps m e P → ATrailing o w qs ps s e P
    without_it : Runs ways S Next behind o qs ps s e P → ATrailing o w qs ps s e P

  -- a mark that may be missing is read, or isn't
  pub run_may : {o : ℕ} {w : List ℕ} {qs : List (PieceOf Role)} {ps : Parts} {s e : S} {P : List Pair} → Runs ways S Next behind o (may w ∷ qs) ps s e P → ATrailing o w qs ps s e P
  run_may (step (with_mark h) d) = with_it h d
  run_may (step without_mark d) = without_it d

  -- no line break before the next token
  pub record OnLine (o : ℕ) (qs : List (PieceOf Role)) (ps : Parts) (s e : S) (P : List Pair) : Type 0 where
    pub sign : Token
    pub mid : S
    pub next : Next s sign mid
    pub unbroken : sign.after_break ≡ Rattle.std.specs.Prelude.false
    pub runs : Runs ways S Next behind o qs ps s e P

  -- the next token is on the same line
  pub run_unbroken : {o : ℕ} {qs : List (PieceOf Role)} {ps : Parts} {s e : S} {P : List Pair} → Runs ways S Next behind o (unbroken ∷ qs) ps s e P → OnLine o qs ps s e P
  run_unbroken (step (same_line {t = t} {e = m} nx h) d) = record { sign = t; mid = m; next = nx; unbroken = h; runs = d }

  -- over what nothing spells, nothing runs
  pub run_never : {o : ℕ} {qs : List (PieceOf Role)} {ps : Parts} {s e : S} {P : List Pair} → Runs ways S Next behind o (never ∷ qs) ps s e P → ⊥
  run_never (step p d) = elim p [ ]

  -- the next part, and the rest
  pub record APart (o : ℕ) (a : Role) (qs : List (PieceOf Role)) (ps : Parts) (s e : S) (P : List Pair) : Type 0 where
    pub item : Tree
    pub rest : Parts
    pub mid : S
    pub one : List Pair
    pub more : List Pair
    pub parts : ps ≡ part item rest
    pub pairs : P ≡ one ++ more
    pub spelled : Spells ways S Next behind o a item s mid one
    pub runs : Runs ways S Next behind o qs rest mid e more

  -- a part is spelled first
  pub run_part : {o : ℕ} {a : Role} {qs : List (PieceOf Role)} {ps : Parts} {s e : S} {P : List Pair} → Runs ways S Next behind o (sub a ∷ qs) ps s e P → APart o a qs ps s e P
  run_part (within {n = n} {ps = ps} {m = m} {P = P} {Q = Q} p d) = record { item = n; rest = ps; mid = m; one = P; more = Q; parts = refl; pairs = refl; spelled = p; runs = d }
  run_part (step p d) = elim p [ ]

  -- a known part is spelled first
  pub record ThePart (o : ℕ) (a : Role) (qs : List (PieceOf Role)) (n : Tree) (ps : Parts) (s e : S) (P : List Pair) : Type 0 where
    pub mid : S
    pub one : List Pair
    pub more : List Pair
    pub pairs : P ≡ one ++ more
    pub spelled : Spells ways S Next behind o a n s mid one
    pub runs : Runs ways S Next behind o qs ps mid e more

  -- the part that is there is spelled first
  pub run_the_part : {o : ℕ} {a : Role} {qs : List (PieceOf Role)} {n : Tree} {ps : Parts} {s e : S} {P : List Pair} → Runs ways S Next behind o (sub a ∷ qs) (part n ps) s e P → ThePart o a qs n ps s e P
  run_the_part (within {m = m} {P = P} {Q = Q} p d) = record { mid = m; one = P; more = Q; pairs = refl; spelled = p; runs = d }
  run_the_part (step p d) = elim p [ ]

  -- no part is spelled where none is left
  pub run_no_part : {A : Type 0} {o : ℕ} {a : Role} {qs : List (PieceOf Role)} {s e : S} {P : List Pair} → Runs ways S Next behind o (sub a ∷ qs) none s e P → A
  run_no_part (step p d) = elim p [ ]

  -- nor where the next is a gap
  pub run_gap_part : {A : Type 0} {o : ℕ} {a : Role} {qs : List (PieceOf Role)} {ps : Parts} {s e : S} {P : List Pair} → Runs ways S Next behind o (sub a ∷ qs) (gap ps) s e P → A
  run_gap_part (step p d) = elim p [ ]

  -- a hole, and the rest
  pub record AGap (o : ℕ) (qs : List (PieceOf Role)) (ps : Parts) (s e : S) (P : List Pair) : Type 0 where
    pub rest : Parts
    pub parts : ps ≡ gap rest
    pub runs : Runs ways S Next behind o qs rest s e P

  -- a gap is next
  pub run_absent : {o : ℕ} {qs : List (PieceOf Role)} {ps : Parts} {s e : S} {P : List Pair} → Runs ways S Next behind o (absent ∷ qs) ps s e P → AGap o qs ps s e P
  run_absent (missing {ps = ps} d) = record { rest = ps; parts = refl; runs = d }
  run_absent (step p d) = elim p [ ]

  -- the gap that is there is passed over
  pub run_the_gap : {o : ℕ} {qs : List (PieceOf Role)} {ps : Parts} {s e : S} {P : List Pair} → Runs ways S Next behind o (absent ∷ qs) (gap ps) s e P → Runs ways S Next behind o qs ps s e P
  run_the_gap (missing d) = d
  run_the_gap (step p d) = elim p [ ]

  -- the parentheses round an arrow's parameters
  pub record AnOpening (o : ℕ) (qs : List (PieceOf Role)) (ps : Parts) (s e : S) (P : List Pair) : Type 0 where
    pub less : ℕ
    pub more : o ≡ suc less
    pub sign : Token
    pub mid : S
    pub reads : Reads S Next behind Punctuator (codes "(") s sign mid
    pub runs : Runs ways S Next behind less qs ps mid e P

  -- the parenthesis before an arrow's parameters is read first
  pub run_opened : {o : ℕ} {qs : List (PieceOf Role)} {ps : Parts} {s e : S} {P : List Pair} → Runs ways S Next behind o (open_parameters ∷ qs) ps s e P → AnOpening o qs ps s e P
  run_opened (opened {o = o} {t = t} {m = m} h d) = record { less = o; more = refl; sign = t; mid = m; reads = h; runs = d }
  run_opened (step p d) = elim p [ ]

  pub record AClosing (o : ℕ) (qs : List (PieceOf Role)) (ps : Parts) (s e : S) (P : List Pair) : Type 0 where
    pub sign : Token
    pub mid : S
    pub reads : Reads S Next behind Punctuator (codes ")") s sign mid
    pub runs : Runs ways S Next behind (suc o) qs ps mid e P

  -- that behind them is read first
  pub run_closed : {o : ℕ} {qs : List (PieceOf Role)} {ps : Parts} {s e : S} {P : List Pair} → Runs ways S Next behind o (close_parameters ∷ qs) ps s e P → AClosing o qs ps s e P
  run_closed (closed {t = t} {m = m} h d) = record { sign = t; mid = m; reads = h; runs = d }
  run_closed (step p d) = elim p [ ]
