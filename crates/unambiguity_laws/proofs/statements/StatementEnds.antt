-- Where a statement ends: with a `;` or where it may be missing, at one place; and not where an expression begins on the same line.
use Rattle.std.proofs.Common.{◌≡◌, ℕ, ◌≤◌, Bool, true, false, List, [], ◌∷◌, refl, sym, ap, ◌∙◌, subst, ◌⊎◌, inl, inr}
use Rattle.std.specs.Prelude.{IsTrue, codes, not, ◌&&◌, ◌||◌, if◌then◌else◌}
use Rattle.std.specs.Bool.{beq}
use Rattle.std.proofs.lemmas.Bool.{and_parts, false≢true}
use Rattle.std.proofs.lemmas.Slice.Eq.{bytes_eq-Decides}
use Rattle.tokens.specs.Alphabet.{one_of, begins_with}
use Rattle.tokens.specs.declared.token.TokenClass.{TokenClass}
use Rattle.tokens.specs.declared.token.TokenClass.TheVariants.{Punctuator}
use Rattle.tokens.specs.declared.token.Goal.{Goal}
use Rattle.tokens.specs.declared.token.Goal.TheVariants.{Div}
use Rattle.tokens.specs.Goals.{allows, is_regexp, is_template_part, reads_regexps, reads_template_parts}
use Rattle.tree.specs.declared.kind.Pair.{Pair}
use Rattle.tree.specs.Tree.{Tree, Parts, none, part, gap, bare_parts, parts_height}
use Rattle.language.specs.declared.Rank.{Rank}
use Rattle.language.specs.declared.Start.{Start}
use Rattle.language.specs.declared.Edge.{Edge}
use Rattle.language.specs.Vocabulary.{is}
use Rattle.language.specs.Edges.{is_sign, is_end, is_semicolon, may_omit_semicolon, goes_on, edge_as_written}
use Rattle.language.specs.ExpressionStart.{expression_start_by}
use Rattle.language.specs.Pieces.{Role, expr, PieceOf, Ending, ending}
use Rattle.language.specs.Token.{Token}
use Rattle.language.specs.Promises.{is_free, IsDetermined}
use Rattle.language.specs.Following.{FoundPartsWhere}
use Rattle.language.specs.Grammar.{ways}
use Rattle.language.specs.Derivation.{Reads, Spells, Runs, Step, explicit, implicit}
use Rattle.language.proofs.table.TokenFirstWays.{opens}
use Rattle.language.proofs.climbing.Supers.{none_begins}
use Rattle.language.proofs.list_loops.FirstPieces.{run_laid, run_unbroken, run_part, run_never, run_the_gap}
use Rattle.language.proofs.statements.MissingSemicolons.{misses, either, ended_class, signed_class}
use Rattle.language.proofs.climbing.Conditionals.{same_sign}
use Rattle.language.proofs.list_loops.PiecesSoFar.{Fits, run_end}
use Rattle.language.proofs.statements.OptionalParts.{word_pieces, given_pieces, word_given, word_missing, and_found}
use Rattle.unambiguity_laws.proofs.list_items.UniqueRuns.{UniqueRuns, UniqueWhere, runs_lay, runs_unbroken, runs_part}

-- the end behind an expression with this edge
abbrev pub end_behind : Edge → PieceOf Role
end_behind x = ending (Rattle.language.specs.Pieces.behind x)

-- some goal reads each token
pub some_goal : (c : TokenClass) (w : List ℕ) → (g : Goal) × IsTrue (allows g c w)
some_goal c w = go (is_regexp c) (is_template_part c) (begins_with (one_of "/") w) (begins_with (one_of "}") w)
  where
    go : (p q x y : Bool) → (g : Goal) × IsTrue (if x then beq p (reads_regexps g) else if y then beq q (reads_template_parts g) else true)
    go true q true y = (Goal.RegExp, refl)
    go false q true y = (Div, refl)
    go p true false true = (Goal.TemplateTail, refl)
    go p false false true = (Div, refl)
    go p q false false = (Div, refl)

any_goal_semicolon : (g : Goal) → IsTrue (allows g Punctuator (codes ";"))
any_goal_semicolon Goal.RegExp = refl
any_goal_semicolon Goal.Div = refl
any_goal_semicolon Goal.TemplateTail = refl

not_both : (b : Bool) → not b ≡ true → b ≡ true → ⊥
not_both true h k = cc
not_both false h k = cc

module _ (S : Type 0) (Next : S → Token → S → Type 0) (behind : S → Token) (det : IsDetermined S Next behind) where
  -- where the `;` may be missing there is none
  none_missing : (y : Ending) {s m k : S} {t v : Token} → Reads S Next behind Punctuator (codes ";") s v k → Next s t m → IsTrue (may_omit_semicolon y (behind s) t) → ⊥
  none_missing y {s} {m} {k} {t} {v} r nx may =
      let g = some_goal t.class t.text in
      let al : IsTrue (allows g.0 v.class v.text) = subst (λ x. IsTrue (allows g.0 x v.text)) (sym r.class) (subst (λ x. IsTrue (allows g.0 Punctuator x)) (sym r.text) (any_goal_semicolon g.0)) in
      let same : t ≡ v = (det.same g.0 s t v m k nx r.next g.1 al).0 in
      let semi : is_semicolon t ≡ true = ap is_semicolon same ∙ ap (λ c. is_semicolon (record { class = c; text = v.text; start = 0; stop = 0; after_break = false })) r.class ∙ ap (λ w. is w ";") r.text in
      not_both (is_semicolon t) (and_parts (not (is_semicolon t)) _ may).0 semi

  -- a statement ends at one place
  pub end_once : {y : Ending} {s k k' : S} → Step S Next behind (ending y) s k → Step S Next behind (ending y) s k' → k' ≡ k
  end_once (explicit r) (explicit r') = (same_sign S Next behind det r' r refl).1
  end_once {y = y} (explicit r) (implicit nx may) = absurd (none_missing y r nx may)
  end_once {y = y} (implicit nx may) (explicit r) = absurd (none_missing y r nx may)
  end_once (implicit nx may) (implicit nx' may') = refl

  -- so the end of a statement is unique, whatever edge its parts have
  pub runs_end : {h : ℕ} {Fine : Parts → S → Type 0} (right : Parts → Ending) → UniqueRuns S Next behind det h Fine (λ ps. ending (right ps) ∷ [])
  runs_end {h} {Fine} right = record {
    found = λ {o} {ps} {mid} {e} {P} low d fine.
        let z = run_end S Next behind det d in
        record {
          runs = d;
          only = λ o' e' ps' P' d' fine'.
              let z' = run_end S Next behind det d' in
              let end : Step S Next behind (ending (right none)) mid e = subst (λ v. Step S Next behind (ending (right v)) mid e) z.parts z.ends in
              let end' : Step S Next behind (ending (right none)) mid e' = subst (λ v. Step S Next behind (ending (right v)) mid e') z'.parts z'.ends in
              (end_once end end', z'.parts ∙ sym z.parts, z'.pairs ∙ sym z.pairs);
        };
  }

  -- no expression begins on the same line where a statement ends
  pub end_apart : {x : Edge} {y : Rank} {i : Bool} {f : Start} {o : ℕ} {n : Tree} {s e k m : S} {P : List Pair} {t : Token} → Step S Next behind (end_behind x) s k → Spells ways S Next behind o (expr y i f) n s e P → Next s t m → t.after_break ≡ false → ⊥
  end_apart {x} {s = s} {m = m} {t = t} (explicit {t = v} r) d nx line =
      none_begins S Next behind det (record { next = r.next; allowed = subst (λ c. IsTrue (allows Goal.RegExp c v.text)) (sym r.class) (subst (λ w. IsTrue (allows Goal.RegExp Punctuator w)) (sym r.text) refl) }) (opens v r.class r.text refl) d
  end_apart {x} {s = s} {m = m} {t = t} (implicit {t = v} {e = j} nx' may) d nx line = of (misses x (behind s) v may)
    where
      ended : (is_end v ≡ true) ⊎ ((is_sign v && is v.text "}") ≡ true) → ⊥
      ended (inl q) = let c = ended_class v q in none_begins S Next behind det (record { next = nx'; allowed = det.free Goal.RegExp s v j nx' (ap is_free c) }) (ap (λ z. expression_start_by z v.text) c) d
      ended (inr q) =
          let b = and_parts (is_sign v) (is v.text "}") q in
          let c = signed_class v b.0 in
          let w : v.text ≡ codes "}" = (bytes_eq-Decides v.text (codes "}")).0 b.1 in
          none_begins S Next behind det (record { next = nx'; allowed = subst (λ z. IsTrue (allows Goal.RegExp z v.text)) (sym c) (subst (λ z. IsTrue (allows Goal.RegExp Punctuator z)) (sym w) refl) }) (opens v c w refl) d

      of : ((is_end v || (is_sign v && is v.text "}")) ≡ true) ⊎ ((v.after_break && not (goes_on (edge_as_written x (behind s)) v)) ≡ true) → ⊥
      of (inl q) = ended (either (is_end v) (is_sign v && is v.text "}") q)
      of (inr q) = false≢true (sym line ∙ det.break s t v m j nx nx' ∙ (and_parts v.after_break (not (goes_on (edge_as_written x (behind s)) v)) q).0)

  -- nor something else that is an expression too
  not_given : {y : Rank} {i : Bool} {f : Start} {x : Edge} {o : ℕ} {ps : Parts} {s e k : S} {P : List Pair} (a : Role) (right : Parts → Edge) → ((o : ℕ) (n : Tree) (s e : S) (P : List Pair) → Spells ways S Next behind o a n s e P → Spells ways S Next behind o (expr y i f) n s e P) →
      Step S Next behind (end_behind x) s k → Runs ways S Next behind o (given_pieces a right ps) ps s e P → ⊥
  not_given a right begins end d =
      let v = run_unbroken S Next behind (run_laid S Next behind d) in
      end_apart end (begins _ _ _ _ _ (run_part S Next behind v.runs).spelled) v.next v.unbroken

  -- Behind a word: a part on the same line, which is an expression too, or none; and the end.
  module _ {h : ℕ} {Fine : Parts → S → Type 0} {FineNode : Tree → S → Type 0} {a : Role} (right : Parts → Edge) {y : Rank} {i : Bool} {f : Start}
      (begins : (o : ℕ) (n : Tree) (s e : S) (P : List Pair) → Spells ways S Next behind o a n s e P → Spells ways S Next behind o (expr y i f) n s e P) (one : UniqueWhere S Next behind det h FineNode a)
      (fits : (mid : S) → Fits S Next behind det Fine FineNode a (λ ps. end_behind (right (bare_parts ps)) ∷ []) mid) where
    -- given
    pub runs_given : UniqueRuns S Next behind det h Fine (given_pieces a right)
    runs_given = runs_lay S Next behind det (runs_unbroken S Next behind det (runs_part S Next behind det {after = λ ps. end_behind (right (bare_parts ps)) ∷ []} one fits (λ n low. runs_end (λ ps. Rattle.language.specs.Pieces.behind (right (bare_parts (part n ps)))))))

    -- either
    pub runs_word : UniqueRuns S Next behind det h Fine (word_pieces a right)
    runs_word = record { found = λ {o} {ps} {mid} {e} {P} low d fine. of ps low d fine }
      where
        of : {o : ℕ} {mid e : S} {P : List Pair} (ps : Parts) → parts_height ps ≤ h → Runs ways S Next behind o (word_pieces a right ps) ps mid e P → Fine ps e → FoundPartsWhere S Next behind Fine o (word_pieces a right) mid e ps P
        of none low d fine = absurd (run_never S Next behind d)
        of (part n ps) low d fine = and_found S Next behind det
            (word_given S Next behind det a right (λ o' ps' e' P' d' fine'. not_given a right begins (run_end S Next behind det d').ends d))
            (runs_given.found low d fine)
        of (gap ps) low d fine =
            let d1 = run_the_gap S Next behind d in
            and_found S Next behind det
            (word_missing S Next behind det a right (λ o' ps' e' P' d' fine'. not_given a right begins (run_end S Next behind det d1).ends d'))
            ((runs_end (λ ps. Rattle.language.specs.Pieces.behind (right (bare_parts (gap ps))))).found low d1 fine)
