-- Behind an item of a given list: the list that is left of it, and the whole (ECMA-262 12.2, 12.16, 13.3, 13.12).
use Rattle.std.proofs.Common.{◌+◌, ◌≡◌, ℕ, Bool, true, false, not, cond, List, refl, sym, ap, ◌∙◌, subst, arith}
use Rattle.std.specs.Prelude.{Some, codes, ◌&&◌, ◌||◌, if◌then◌else◌, nat_le}
use Rattle.std.proofs.lemmas.Bool.{false≢true}
use Rattle.tokens.specs.declared.token.TokenClass.TheVariants.{Punctuator}
use Rattle.tokens.specs.declared.token.Goal.TheVariants.{Div}
use Rattle.language.specs.Promises.{ReadBy}
use Rattle.tree.specs.declared.kind.Pair.{Pair}
use Rattle.tree.specs.Tree.{Parts, join, part_count}
use Rattle.language.specs.declared.Edge.{Edge}
use Rattle.language.specs.declared.Edge.TheVariants.{Closed, Arrow, Postfix, Other}
use Rattle.language.specs.declared.Rank.TheVariants.{Expression, Assignment}
use Rattle.language.specs.declared.Start.TheVariants.{Any}
use Rattle.language.specs.Covers.{Reading}
use Rattle.language.specs.Edges.{edge, edge_as_written}
use Rattle.language.specs.Continuations.{operation, rank_made_by, stops_at, holds}
use Rattle.language.specs.Pieces.{Role, expr}
use Rattle.language.specs.Vocabulary.{is}
use Rattle.language.specs.Token.{Token}
use Rattle.language.proofs.climbing.SpineContinuations.{makes}
use Rattle.language.proofs.table.RightEdges.{edged}
use Rattle.token_cursor.proofs.SeenTokens.{seen_determined}
use Rattle.covers.specs.declared.list.ListKind.{ListKind}
use Rattle.covers.specs.declared.list.ListKind.TheVariants as listed
use Rattle.covers.specs.declared.list.ListSummary.{ListSummary}
use Rattle.covers.specs.declared.list.ListBuilder.{ListBuilder as ListOf}
use Rattle.covers.specs.Lists.{closing, is_ended, separated, reads}
use Rattle.recursive_descent.specs.Soundness.{RunsIn, all_read_as}
use Rattle.recursive_descent.specs.SoundnessOfLists.{has_reading, seen_fits, stood_in, left_of, ClosedBy, case_count, is_chunked, is_stuck, stuck_at}
use Rattle.recursive_descent.specs.CompletenessOfLists.{ListGiven, LastGiven, ItemGiven, an_item, a_hole, a_chunk, ItemRead, is_full, is_lone, default_seen}
use Rattle.parser_tables.specs.Items.{is_unseparated}
use Rattle.token_cursor.specs.Seen.{ReadsHere}
use Rattle.recursive_descent.proofs.complete_expressions.Agreement.{marks_same, not_missed}
use Rattle.recursive_descent.proofs.complete_lists.ListSteps.{Behind, ended, comma, next}
use Rattle.recursive_descent.proofs.complete_lists.ListTurns.{count_read, count_join, cases_join, left_same, signs_apart, unlike}
use Rattle.recursive_descent.proofs.complete_lists.ListLoop.{moved_given}
use Rattle.recursive_descent.proofs.complete_lists.NextItem.{comma_left, comma_free, next_free, rest_runs, defaults_left}
use Rattle.token_cursor.proofs.TokensAhead.{mark_by}
use Rattle.token_cursor.specs.SourceText.{SourceText, SeenNext, behind_in}
use Rattle.recursive_descent.specs.Spelled.{SpellsIn}

some_is : {a b : Role} → Some a ≡ Some b → a ≡ b
some_is e = cc

-- an expression goes on with a comma
comma_held : (c : Edge) (last : Token) → (c ≡ Closed → ⊥) → holds (edge_as_written c last) Expression ≡ true
comma_held Arrow last h = of (is last.text ")")
  where
    of : (b : Bool) → holds (cond b Other Arrow) Expression ≡ true
    of true = refl
    of false = refl
comma_held Postfix last h = of (is last.text ")")
  where
    of : (b : Bool) → holds (cond b Other Postfix) Expression ≡ true
    of true = refl
    of false = refl
comma_held Other last h = refl
comma_held Closed last h = absurd (h refl)

refused : (b i h : Bool) → b ≡ false → h ≡ true → (false || ((b && not i) || not h)) ≡ true → ⊥
refused true i h e f g = cc
refused false i true e f g = cc
refused false i false e f g = cc

-- where nothing ends a list but a rest, nothing is full
full_of : (x : ListKind) (s : ListSummary) (n : ℕ) → is_ended x s n ≡ false → is_full x s ≡ false
full_of listed.ParenthesizedItems s n h = h
full_of listed.Parameters s n h = h
full_of _ s n h = refl

module _ (text : SourceText) where
  -- behind what ends a list stands no comma
  comma_ends : (x : ListKind) {a : Reading} {o : ℕ} {t e m : Token} (to : Token) {v : Token} {Q : List Pair} {last : Bool} {one : Parts} → is_unseparated x ≡ false → ItemGiven text x a o t e Q last one → m ≡ e → LastGiven text x one m → ClosedBy text (closing x) m to → ReadsHere text Punctuator (codes ",") e v → ⊥
  comma_ends (listed.Declarators i) {e = e} {m = m} to {v} u g at l closed c = not_missed l.1 (subst (λ z. ReadsHere text Punctuator (codes ",") z v) (sym at) c)
  comma_ends (listed.Sequence i) {o = o} {t} {e} {m} to {v} {Q} u (an_item {r = r} {n = n} ch it d en) at l closed c =
      let h : stops_at Expression i (edge_as_written (edge n) (behind_in text e)) (behind_in text v) (rank_made_by (operation (behind_in text v)) v.after_break) ≡ true =
      subst (λ z. stops_at Expression i (edge_as_written (edge n) (behind_in text z)) (behind_in text v) (rank_made_by (operation (behind_in text v)) v.after_break) ≡ true) at
      (l.before (behind_in text v) v (subst (λ z. ReadBy Token (SeenNext text) (behind_in text) Div z (behind_in text v) v) (sym at) (mark_by text c))) in
      let w : stops_at Expression i (edge_as_written (edge n) (behind_in text e)) (behind_in text v) (Some Expression) ≡ true = subst (λ z. stops_at Expression i (edge_as_written (edge n) (behind_in text e)) (behind_in text v) (rank_made_by z v.after_break) ≡ true) (makes (behind_in text v) c.class c.text refl) h in
      let d' : SpellsIn text o (expr Assignment i Any) n t e Q = subst (λ z. SpellsIn text o z n t e Q) (sym (some_is it)) d in
      refused (is v.text "in") i (holds (edge_as_written (edge n) (behind_in text e)) Expression) (ap (λ z. is z "in") c.text) (comma_held (edge n) (behind_in text e) (edged Token (SeenNext text) (behind_in text) (seen_determined text) d').ends) w
  comma_ends (listed.Sequence i) to u (a_hole k c z q) at l closed c' = cc
  comma_ends (listed.Sequence i) to u (a_chunk k x y z) at l closed c' = cc
  comma_ends listed.Arguments {m = m} to u g at l closed c = signs_apart text (unlike (λ w. is w ",") refl refl) c (subst (λ z. ReadsHere text Punctuator (codes ")") z to) at closed)
  comma_ends listed.Elements {m = m} to u g at l closed c = signs_apart text (unlike (λ w. is w ",") refl refl) c (subst (λ z. ReadsHere text Punctuator (codes "]") z to) at closed)
  comma_ends listed.Properties {m = m} to u g at l closed c = signs_apart text (unlike (λ w. is w ",") refl refl) c (subst (λ z. ReadsHere text Punctuator (codes "}") z to) at closed)
  comma_ends listed.ParenthesizedItems {m = m} to u g at l closed c = signs_apart text (unlike (λ w. is w ",") refl refl) c (subst (λ z. ReadsHere text Punctuator (codes ")") z to) at closed)
  comma_ends listed.AsyncArguments {m = m} to u g at l closed c = signs_apart text (unlike (λ w. is w ",") refl refl) c (subst (λ z. ReadsHere text Punctuator (codes ")") z to) at closed)
  comma_ends listed.Parameters {m = m} to u g at l closed c = signs_apart text (unlike (λ w. is w ",") refl refl) c (subst (λ z. ReadsHere text Punctuator (codes ")") z to) at closed)
  comma_ends listed.NoParameter {m = m} to u g at l closed c = signs_apart text (unlike (λ w. is w ",") refl refl) c (subst (λ z. ReadsHere text Punctuator (codes ")") z to) at closed)
  comma_ends listed.OneParameter {m = m} to u g at l closed c = signs_apart text (unlike (λ w. is w ",") refl refl) c (subst (λ z. ReadsHere text Punctuator (codes ")") z to) at closed)
  comma_ends listed.Template to u g at l closed c = cc
  comma_ends (listed.Cases r) to u g at l closed c = cc
  comma_ends listed.Members to u g at l closed c = cc

  -- as many parts were read as one more item has
  count_more : (a : Reading) (l k : ListOf) (one rest : Parts) → all_read_as a k.nodes ≡ join (all_read_as a l.nodes) one → part_count k.nodes + part_count rest ≡ part_count l.nodes + part_count (join one rest)
  count_more a l k one rest h =
      let p = sym (count_read a k.nodes) ∙ ap part_count h ∙ count_join (all_read_as a l.nodes) one in
      let q = count_read a l.nodes in
      let r = count_join one rest in
      omega arith

  -- what runs over what is left is told by the list with its item
  runs_on : (l k : ListOf) (a : Reading) (last : Bool) {o : ℕ} (rest : Parts) {s e : Token} {R : List Pair} → k.listed ≡ l.listed → (is_chunked l.listed ≡ true → k.seen.is_flagged ≡ last) → RunsIn text o (stood_in Any l.listed (left_of l.listed last a rest)) rest s e R → RunsIn text o (stood_in Any k.listed (left_of k.listed k.seen.is_flagged a rest)) rest s e R
  runs_on l k a last {o} rest {s} {e} {R} same marked d =
      subst (λ x. RunsIn text o (stood_in Any x (left_of x k.seen.is_flagged a rest)) rest s e R) (sym same)
      (subst (λ qs. RunsIn text o (stood_in Any l.listed qs) rest s e R) (sym (left_same l.listed k.seen.is_flagged last a rest marked)) d)

  pub next_given : (l k k' : ListOf) (a : Reading) {o : ℕ} {last : Bool} {one rest : Parts} {t e x mid to : Token} {Q R : List Pair} → ItemRead a l k last one → k.listed ≡ l.listed → k'.listed ≡ k.listed → k'.nodes ≡ k.nodes → k'.seen ≡ (if is_unseparated l.listed then k.seen else separated k.seen true) →
      is_ended l.listed k.seen (part_count k.nodes) ≡ false → (is_unseparated l.listed ≡ true → x ≡ e) → (is_unseparated l.listed ≡ false → ReadsHere text Punctuator (codes ",") e x) → ItemGiven text l.listed a o t e Q last one → Behind text l.listed a last one o rest e mid R → ClosedBy text (closing l.listed) mid to →
      is_lone l.listed a (part_count l.nodes + part_count (join one rest)) ≡ true → nat_le (case_count l.listed (join one rest) + default_seen l.listed l.seen.is_flagged) 1 ≡ true → ListGiven text k' a o rest x to R
  next_given l k k' a {o} {last} {one} {rest} {t} {e} {x} {mid} {to} {Q} {R} read kl b c d open_list still commas g (ended p z q u lg) closed lone once = absurd (comma_ends l.listed to u g z lg closed (commas u))
  next_given l k k' a {o} {last} {one} {rest} {t} {e} {x} {mid} {to} {Q} {R} read kl b c d open_list still commas g (comma {k = v} u single plain sign r lg) closed lone once =
      let with_it : ListOf = record k { seen = separated k.seen true } in
      let at : v ≡ x = (marks_same text sign (commas u)).1 in
      moved_given {l = with_it} b c (d ∙ ap (λ z. if z then k.seen else separated k.seen true) u) (record {
        left = ap (λ y. (has_reading y a && seen_fits y with_it a) && reads y with_it.seen.shape) kl ∙ comma_left l.listed k a (λ m. read.no_rest plain m) (ap (λ y. (has_reading y a && seen_fits y k a) && reads y k.seen.shape) (sym kl) ∙ read.left);
        mid = mid;
        runs = rest_runs text (is_stuck with_it a) with_it a o rest x mid R (ap (λ y. stuck_at y a k.nodes true) kl ∙ comma_free l.listed a k.nodes single)
            (runs_on l with_it a last rest kl read.marked (subst (λ z. RunsIn text o (stood_in Any l.listed (left_of l.listed last a rest)) rest z mid R) at r));
        closes = subst (λ y. ClosedBy text (closing y) mid to) (sym kl) closed;
        last = subst (λ y. LastGiven text y rest mid) (sym kl) lg;
        no_rest = ap (λ y. is_full y with_it.seen) kl ∙ comma_full l.listed (full_of l.listed k.seen (part_count k.nodes) open_list);
        lone = ap (λ y. is_lone y a (part_count k.nodes + part_count rest)) kl ∙ ap (is_lone l.listed a) (count_more a l k one rest read.nodes) ∙ lone;
        one_default = ap (λ y. nat_le (case_count y rest + default_seen y k.seen.is_flagged) 1) kl ∙ defaults_left (case_count l.listed one) (case_count l.listed rest) (default_seen l.listed l.seen.is_flagged) (default_seen l.listed k.seen.is_flagged) (ap (λ y. nat_le (y + default_seen l.listed l.seen.is_flagged) 1) (sym (cases_join l.listed one rest)) ∙ once) read.counted;
      })
    where
      comma_full : (y : ListKind) → is_full y k.seen ≡ false → is_full y (separated k.seen true) ≡ false
      comma_full listed.ParenthesizedItems h = h
      comma_full listed.Parameters h = h
      comma_full _ h = refl
  next_given l k k' a {o} {last} {one} {rest} {t} {e} {x} {mid} {to} {Q} {R} read kl b c d open_list still commas g (next u r) closed lone once =
      moved_given {l = k} b c (d ∙ ap (λ z. if z then k.seen else separated k.seen true) u) (record {
        left = read.left;
        mid = mid;
        runs = rest_runs text (is_stuck k a) k a o rest x mid R (ap (λ y. stuck_at y a k.nodes k.seen.has_comma) kl ∙ next_free l.listed a k.nodes k.seen.has_comma u)
            (runs_on l k a last rest kl read.marked (subst (λ z. RunsIn text o (stood_in Any l.listed (left_of l.listed last a rest)) rest z mid R) (sym (still u)) r));
        closes = subst (λ y. ClosedBy text (closing y) mid to) (sym kl) closed;
        last = subst (λ y. LastGiven text y rest mid) (sym kl) (unlast l.listed u);
        no_rest = ap (λ y. is_full y k.seen) kl ∙ full_of l.listed k.seen (part_count k.nodes) open_list;
        lone = ap (λ y. is_lone y a (part_count k.nodes + part_count rest)) kl ∙ ap (is_lone l.listed a) (count_more a l k one rest read.nodes) ∙ lone;
        one_default = ap (λ y. nat_le (case_count y rest + default_seen y k.seen.is_flagged) 1) kl ∙ defaults_left (case_count l.listed one) (case_count l.listed rest) (default_seen l.listed l.seen.is_flagged) (default_seen l.listed k.seen.is_flagged) (ap (λ y. nat_le (y + default_seen l.listed l.seen.is_flagged) 1) (sym (cases_join l.listed one rest)) ∙ once) read.counted;
      })
    where
      unlast : (y : ListKind) → is_unseparated y ≡ true → LastGiven text y rest mid
      unlast listed.Members h = tt
      unlast (listed.Cases r) h = tt
      unlast listed.Template h = tt
      unlast (listed.Sequence i) h = absurd (false≢true h)
      unlast (listed.Declarators i) h = absurd (false≢true h)
      unlast _ h = tt
