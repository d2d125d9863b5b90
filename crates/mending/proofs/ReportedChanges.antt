-- What mends by changes that reports ask for mends by the reports.
use Rattle.std.proofs.Common.{◌≡◌, Bool, true, false, ◌&&◌, ◌||◌, List, [], ◌∷◌, true≢false, refl, sym, ◌∙◌}
use Rattle.std.specs.Prelude.{nat_eq}
use Rattle.std.specs.List.{list_any}
use Rattle.std.specs.Str.{bytes_eq}
use Rattle.std.proofs.lemmas.Bool.{eqb-true}
use Rattle.std.proofs.lemmas.Slice.Eq.{bytes_eq-Decides}
use Rattle.tree.specs.declared.kind.Kind.{Kind}
use Rattle.tree.specs.declared.kind.Span.{Span}
use Rattle.tree.specs.Tree.{Tree, Parts, none, part, gap, parts_of}
use Rattle.rule_words.specs.Reports.{Report}
use Rattle.mending.specs.declared.change.Change.{Change}
use Rattle.mending.specs.declared.change.MendRule.{MendRule}
use Rattle.mending.specs.declared.change.MendRule.TheVariants.{PreferConst}
use Rattle.mending.specs.Changes.{called, place}
use Rattle.mending.specs.Words.{nth, span_at, kind_at, is_identifier}
use Rattle.mending.specs.Mends.{is_asked, are_names, is_reported, Mends, MendsParts, kept, changed, all, one, hole, wrapped, gone}
use Rattle.mending.specs.Making.{is_made, is_change, are_reported, Covers}

and_left : (a b : Bool) → (a && b) ≡ true → a ≡ true
and_left true b h = refl
and_left false b h = absurd (true≢false (sym h))

and_right : (a b : Bool) → (a && b) ≡ true → b ≡ true
and_right true b h = h
and_right false b h = absurd (true≢false (sym h))

and_both : (a b : Bool) → a ≡ true → b ≡ true → (a && b) ≡ true
and_both a b x y = (λ i. x i && y i)

names_more : (a b : Span → Bool) → ((span : Span) → a span ≡ true → b span ≡ true) → (ds : Parts) → are_names a ds ≡ true → are_names b ds ≡ true
names_more a b more none h = refl
names_more a b more (part d ds) h =
    let name = and_left (is_identifier (kind_at (nth 0 d))) _ h in
    let rest = and_right (is_identifier (kind_at (nth 0 d))) _ h in
    let here = and_left (a (span_at d (nth 0 d))) _ rest in
    let there = and_right (a (span_at d (nth 0 d))) _ rest in
    and_both _ _ name (and_both _ _ (more _ here) (names_more a b more ds there))
names_more a b more (gap ds) h = h

asked_more : (a b : MendRule → Span → Bool) → Covers a b → (rule : MendRule) (n : Tree) → is_asked a rule n ≡ true → is_asked b rule n ≡ true
asked_more a b more PreferConst n h = names_more (a PreferConst) (b PreferConst) (more PreferConst) (parts_of n) h
asked_more a b more rule n h = more rule (place rule n) h

mutual
  pub mends_more : (a b : MendRule → Span → Bool) → Covers a b → {n m : Tree} → Mends a n m → Mends b n m
  mends_more a b more (kept ps) = kept (parts_more a b more ps)
  mends_more a b more (changed rule h e c) = changed rule (asked_more a b more rule _ h) e (mends_more a b more c)

  parts_more : (a b : MendRule → Span → Bool) → Covers a b → {kind : Kind} {ps qs : Parts} → MendsParts a kind ps qs → MendsParts b kind ps qs
  parts_more a b more all = all
  parts_more a b more (one h hs) = one (mends_more a b more h) (parts_more a b more hs)
  parts_more a b more (hole hs) = hole (parts_more a b more hs)
  parts_more a b more (wrapped rule is asked h hs) = wrapped rule is (asked_more a b more rule _ asked) (mends_more a b more h) (parts_more a b more hs)
  parts_more a b more (gone rule listed goes asked hs) = gone rule listed goes (asked_more a b more rule _ asked) (parts_more a b more hs)

covers_one : (reports : List Report) (c : Change) (rule : MendRule) (span : Span) → is_change rule span c ≡ true → is_reported reports c.rule c.span ≡ true → is_reported reports rule span ≡ true
covers_one reports c rule span h r =
    let rules = (bytes_eq-Decides (called c.rule) (called rule)).0 (and_left (bytes_eq (called c.rule) (called rule)) _ h) in
    let spans = and_right (bytes_eq (called c.rule) (called rule)) _ h in
    let starts = eqb-true c.span.start span.start (and_left (nat_eq c.span.start span.start) _ spans) in
    let ends = eqb-true c.span.end span.end (and_right (nat_eq c.span.start span.start) _ spans) in
    (λ i. list_any (λ (report : Report). bytes_eq report.rule (sym rules i) && (nat_eq report.start (sym starts i) && nat_eq report.stop (sym ends i))) reports) ∙ r

-- changes that are all reported are made where reports ask for them
pub covers : (reports : List Report) (changes : List Change) → are_reported reports changes ≡ true → Covers (is_made changes) (is_reported reports)
covers reports [] h rule span made = absurd (true≢false (sym made))
covers reports (c ∷ cs) h rule span made =
    here (is_change rule span c) refl (λ rest. covers reports cs rest rule span) (and_left (is_reported reports c.rule c.span) _ h) (and_right (is_reported reports c.rule c.span) _ h) made
  where
    here : (b : Bool) → is_change rule span c ≡ b → (are_reported reports cs ≡ true → is_made cs rule span ≡ true → is_reported reports rule span ≡ true) → is_reported reports c.rule c.span ≡ true → are_reported reports cs ≡ true → (b || list_any (is_change rule span) cs) ≡ true → is_reported reports rule span ≡ true
    here true e others first rest made = covers_one reports c rule span e first
    here false e others first rest made = others rest made
