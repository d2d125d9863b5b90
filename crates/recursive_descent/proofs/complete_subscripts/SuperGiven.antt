-- What is given behind `super` (ECMA-262 12.3.7): a member, or arguments where a call may stand.
use Rattle.std.proofs.Common.{◌≡◌, ℕ, Bool, true, false, cond, List, [], ◌∷◌, ◌++◌, refl, sym, ap, ◌∙◌, subst}
use Rattle.std.specs.Prelude.{IsTrue, codes, ◌&&◌}
use Rattle.tokens.specs.Goals.{allows}
use Rattle.tokens.specs.declared.token.TokenClass.TheVariants.{IdentifierName, Punctuator, PrivateName, Keyword}
use Rattle.tokens.specs.declared.token.TokenClass.{TokenClass}
use Rattle.std.proofs.lemmas.Bool.{false≢true}
use Rattle.tokens.specs.declared.token.Goal.TheVariants.{Div, RegExp}
use Rattle.tree.specs.declared.kind.Kind.{Kind}
use Rattle.tree.specs.declared.kind.Kind.TheVariants.{Identifier, Super}
use Rattle.tree.specs.declared.kind.Flags.{Flags}
use Rattle.tree.specs.declared.kind.Pair.{Pair}
use Rattle.tree.specs.Tree.{Tree, node, Parts, part, bare, bare_parts, kind_of}
use Rattle.tree.specs.Uses.{is_lean, used_flags, has_text}
use Rattle.tree.proofs.Lean.{lean_flags, lean_text}
use Rattle.language.specs.declared.Rank.{Rank}
use Rattle.language.specs.declared.Rank.TheVariants.{Call}
use Rattle.language.specs.Covers.{Reading, as_expression}
use Rattle.language.specs.Expressions.{arguments, in_brackets, property_name}
use Rattle.language.specs.FirstPart.{lead, others}
use Rattle.language.specs.ExpressionStart.{with_super, expression_start}
use Rattle.language.specs.Pieces.{Role, PieceOf, base, word, sub, put, sign, expr}
use Rattle.language.specs.Promises.{ReadBy, is_free}
use Rattle.language.specs.Token.{Token, same_class}
use Rattle.token_cursor.proofs.TokensAhead.{class_of}
use Rattle.language.specs.Vocabulary.{takes}
use Rattle.language.specs.Grammar.{spellings}
use Rattle.language.specs.Derivation.{Reads, direct, Placed, placed, step, token}
use Rattle.language.proofs.table.Begins.{goes_to, retell}
use Rattle.language.proofs.climbing.LeftmostParts.{Cored, in_way, core_by}
use Rattle.language.proofs.lower_bound.Domination.{settled}
use Rattle.language.proofs.table.TokenFirstWays.{head_super_member, head_super_call}
use Rattle.language.proofs.climbing.Leaves.{is_worded, by_name, word_form, worded_free}
use Rattle.language.proofs.list_loops.FirstPieces.{APart, run_token, run_none, run_part}
use Rattle.language.proofs.climbing.Suffixes.{argument_pieces, arguments_fixed, member_flags, call_flags}
use Rattle.token_cursor.proofs.SeenTokens.{seen_determined}
use Rattle.language.proofs.climbing.BinaryTurns.{same_node}
use Rattle.language.proofs.table.ViewIsComplete.{way_of, one}
use Rattle.recursive_descent.specs.declared.subscripts.Subscript.{Subscript}
use Rattle.recursive_descent.specs.declared.subscripts.Subscript.TheVariants as link
use Rattle.parser_tables.specs.declared.expression_context.ExpressionContext.{ExpressionContext}
use Rattle.recursive_descent.specs.Soundness.{RunsIn, anywhere}
use Rattle.recursive_descent.specs.Completeness.{FirstAs, subscript_after}
use Rattle.recursive_descent.specs.Subscripts.{link_kind, link_flags, link_rank}
use Rattle.token_cursor.specs.Seen.{ReadsHere, SeesBy}
use Rattle.parser_tables.specs.Tests.{continues_super}
use Rattle.parser_tables.specs.Tokens.{single_node}
use Rattle.recursive_descent.proofs.complete_expressions.Agreement.{read_here, marks_same}
use Rattle.recursive_descent.proofs.complete_expressions.StartsGiven.{CoreGiven, given_core, wholly_takes, is_bracket, is_named}
use Rattle.recursive_descent.proofs.complete_expressions.PrefixesGiven.{placed_ends}
use Rattle.token_cursor.specs.SourceText.{SourceText, SeenNext, behind_in}
use Rattle.recursive_descent.specs.Spelled.{SpellsIn}
use Rattle.recursive_descent.proofs.sound_expressions.GroupContents.{arguments_bare}

-- no private name stands behind a `.` there
abbrev pub PlainlyNamed : SourceText → Token → Type 0
PlainlyNamed text s = (x m e : Token) → ReadsHere text Punctuator (codes ".") s m → SeenNext text m x e → same_class PrivateName x.class ≡ false

-- The link behind `super`, which is this token.
pub record SuperGiven (text : SourceText) (o : ℕ) (h : Rank) (u : Token) (n : Tree) (to : Token) (Q : List Pair) (takes_call : Bool) : Type 0 where
  pub l : Subscript
  pub ps : Parts
  pub tree : n ≡ node (link_kind l) [] (link_flags l false) u.start to.stop (part (single_node Super u) ps)
  pub taken : IsTrue (takes h (link_rank l false))
  pub runs : RunsIn text o (anywhere (subscript_after l false ps)) ps u to Q
  pub sees : SeesBy text Div (continues_super takes_call) u
  pub plainly : PlainlyNamed text u

made_node : {k K : Kind} {w : List ℕ} {g G : Flags} {st en st' en' : ℕ} {ps qs : Parts} {m : Tree} → m ≡ node k w g st en ps → k ≡ K → has_text K ≡ false → used_flags K g ≡ G → is_lean (bare m) ≡ true → st ≡ st' → en ≡ en' → ps ≡ qs → m ≡ node K [] G st' en' qs
made_node {k} {K} {w} {g} {G} {st} {en} {st'} {en'} {ps} tree kind texts flags lean a b parts =
    let bares : is_lean (bare (node k w g st en ps)) ≡ true = ap (λ v. is_lean (bare v)) (sym tree) ∙ lean in
    tree ∙ same_node kind (lean_text (bare (node k w g st en ps)) bares (ap has_text kind ∙ texts)) (lean_flags (bare (node k w g st en ps)) bares ∙ ap (λ v. used_flags v g) kind ∙ flags) a b parts

-- one of the three tokens
goes_dot : (k : Bool) (t : Token) → t.class ≡ Punctuator → t.text ≡ codes "." → continues_super k t ≡ true
goes_dot k t c w = (λ i. continues_super k (record t { class = c i; text = w i }))

goes_index : (k : Bool) (t : Token) → t.class ≡ Punctuator → t.text ≡ codes "[" → continues_super k t ≡ true
goes_index k t c w = (λ i. continues_super k (record t { class = c i; text = w i }))

goes_call : (k : Bool) (t : Token) → k ≡ true → t.class ≡ Punctuator → t.text ≡ codes "(" → continues_super k t ≡ true
goes_call k t e c w = (λ i. continues_super (e i) (record t { class = c i; text = w i }))

no_texts : (l : Subscript) → has_text (link_kind l) ≡ false
no_texts link.Name = refl
no_texts link.Index = refl
no_texts link.Arguments = refl
no_texts link.Quasi = refl

dot_index : codes "." ≡ codes "[" → ⊥
dot_index e = cc

dot_call : codes "." ≡ codes "(" → ⊥
dot_call e = cc

no_private : (c : TokenClass) (w : List ℕ) → is_worded c w ≡ true → c ≡ PrivateName → ⊥
no_private IdentifierName w h e = cc
no_private Keyword w h e = cc
no_private _ w h e = absurd (false≢true h)

module _ (text : SourceText) where
  record BaseGiven (n : Tree) (s e : Token) (P : List Pair) : Type 0 where
    reads : ReadsHere text IdentifierName (codes "super") s e
    tree : n ≡ single_node Super e
    pairs : P ≡ []

  base_given : {o : ℕ} {n : Tree} {s e : Token} {P : List Pair} → SpellsIn text o base n s e P → BaseGiven n s e P
  unfolding spellings
  base_given {n = node Super w g st en ps} {s = s} {e = e} (direct qs h (placed {t = t} {m = m} nx p) d) =
      let v = way_of h in
      let u = run_token Token (SeenNext text) (behind_in text) (retell Token (SeenNext text) (behind_in text) (v.is ∙ ap (settled base) (one v.listed)) d) in
      let z = run_none Token (SeenNext text) (behind_in text) u.runs in
      let reads : Reads Token (SeenNext text) (behind_in text) IdentifierName (codes "super") s u.sign e = subst (λ x. Reads Token (SeenNext text) (behind_in text) IdentifierName (codes "super") s u.sign x) z.place u.reads in
      record {
        reads = read_here text reads;
        tree = same_node refl (lean_text (bare (node Super w g st en ps)) v.lean refl) (lean_flags (bare (node Super w g st en ps)) v.lean) (sym (ap (λ (x : ℕ × ℕ). x.0) p) ∙ (seen_determined text).start s t u.sign m u.mid nx u.reads.next ∙ ap (λ (t : Token). t.start) (sym ((seen_determined text).last s u.sign e reads.next))) (sym (ap (λ (x : ℕ × ℕ). x.1) p)) z.parts;
        pairs = z.pairs;
      }
  base_given {n = node _ w g st en ps} (direct qs h pl d) = elim ((way_of h).listed) [ ]

  -- a name leads the parts
  name_leads : {o : ℕ} {qs : List (PieceOf Role)} {ps : Parts} {s e : Token} {P : List Pair} → APart Token (SeenNext text) (behind_in text) o word qs ps s e P → lead ps ≡ Identifier
  name_leads a = ap lead a.parts ∙ ap kind_of (word_form Token (SeenNext text) (behind_in text) (seen_determined text) a.spelled).tree

  -- where a word is read no private name is, and where another sign is read no `.`
  word_there : {o : ℕ} {n : Tree} {k x e to : Token} {P : List Pair} → SpellsIn text o word n k e P → SeenNext text k x to → same_class PrivateName x.class ≡ false
  word_there {k = k} {x = x} {e = e} {to = to} d next = of (same_class PrivateName x.class) refl
    where
      of : (b : Bool) → same_class PrivateName x.class ≡ b → same_class PrivateName x.class ≡ false
      of false h = h
      of true h =
          let u = word_form Token (SeenNext text) (behind_in text) (seen_determined text) d in
          let class : x.class ≡ PrivateName = (class_of text PrivateName x.class true (ap (λ b. b && true) h)).0 in
          let same = (seen_determined text).same Div k x u.sign to e next u.reads.next ((seen_determined text).free Div k x to next (ap is_free class)) ((seen_determined text).free Div k u.sign e u.reads.next (ap is_free u.reads.class ∙ worded_free u.class u.text u.is_word)) in
          absurd (no_private u.class u.text u.is_word (sym u.reads.class ∙ ap (λ (z : Token). z.class) (sym same.0) ∙ class))

  plain_word : {o : ℕ} {n : Tree} {s t k e : Token} {P : List Pair} → Reads Token (SeenNext text) (behind_in text) Punctuator (codes ".") s t k → SpellsIn text o word n k e P → PlainlyNamed text s
  plain_word dot d x m e read next = word_there d (subst (λ c. SeenNext text c x e) (marks_same text read dot).1 next)

  other_sign : {s t k : Token} {w : List ℕ} → Reads Token (SeenNext text) (behind_in text) Punctuator w s t k → (codes "." ≡ w → ⊥) → PlainlyNamed text s
  other_sign sign other x m e read next = absurd (other (sym read.text ∙ ap (λ (z : Token). z.text) (marks_same text read sign).0 ∙ sign.text))

  sees_so : (c : Bool) {s t e : Token} {w : List ℕ} → Reads Token (SeenNext text) (behind_in text) Punctuator w s t e → IsTrue (allows Div Punctuator w) → continues_super c t ≡ true → SeesBy text Div (continues_super c) s
  sees_so c {s} {t} {e} {w} r al goes =
      let at : behind_in text e ≡ t = (seen_determined text).last s t e r.next in
      let allowed : IsTrue (allows Div t.class t.text) = subst (λ x. IsTrue (allows Div x t.text)) (sym r.class) (subst (λ x. IsTrue (allows Div Punctuator x)) (sym r.text) al) in
      (e, subst (λ x. ReadBy Token (SeenNext text) (behind_in text) Div s x e × (continues_super c x ≡ true)) (sym at) (record { next = r.next; allowed = allowed }, goes))

  -- a base, and what runs behind it
  found_member : {o : ℕ} {h : Rank} {k : Kind} {w : List ℕ} {g : Flags} {st en : ℕ} {ps : Parts} {m b : Tree} {rest : Parts} {s u place mid : Token} {Q : List Pair} {c : Bool} (l : Subscript) → m ≡ node k w g st en ps → k ≡ link_kind l → used_flags (link_kind l) g ≡ link_flags l false → is_lean (bare m) ≡ true → (st ≡ u.start) × (en ≡ mid.stop) →
      ps ≡ part b rest → SpellsIn text o base b s place [] → ReadBy Token (SeenNext text) (behind_in text) RegExp s u u → IsTrue (takes h (link_rank l false)) → RunsIn text o (anywhere (subscript_after l false rest)) rest place mid Q → SeesBy text Div (continues_super c) place → PlainlyNamed text place → SuperGiven text o h u m mid Q c
  found_member {o} {rest = rest} {u = u} {place = place} {mid = mid} {Q = Q} {c = c} l tree kind flags lean ends parts spelled r tk runs sees plainly =
      let base_is = base_given spelled in
      let here : place ≡ u = (by_name Token (SeenNext text) (behind_in text) (seen_determined text) r (behind_in text place) place base_is.reads).1 in
      record {
        l = l;
        ps = rest;
        tree = made_node tree kind (no_texts l) flags lean ends.0 ends.1 (parts ∙ ap (λ n. part n rest) (base_is.tree ∙ ap (single_node Super) here));
        taken = tk;
        runs = subst (λ x. RunsIn text o (anywhere (subscript_after l false rest)) rest x mid Q) here runs;
        sees = subst (λ x. SeesBy text Div (continues_super c) x) here sees;
        plainly = subst (λ x. PlainlyNamed text x) here plainly;
      }

  super_cored : {p : ExpressionContext} {o : ℕ} {m : Tree} {s u mid : Token} {Q : List Pair} {a : Reading} {h : Rank} → ReadBy Token (SeenNext text) (behind_in text) RegExp s u u → (v : CoreGiven text p o m s mid Q a h) → Cored Token (SeenNext text) (behind_in text) (seen_determined text) o h v.j p.start m s mid Q with_super →
      SuperGiven text o h u m mid Q (takes p.rank Call)
  super_cored {p} {o} {m} {s} {u} {mid} {Q} {a} {h} r v (in_way {k = k} {w = w} {g = g} {st = st} {en = en} {ps = ps} tree (head_super_member kind opt sup tk q) lean pl d) = of g.computed refl
    where
      ends : (st ≡ u.start) × (en ≡ mid.stop)
      ends = placed_ends text r (subst (λ c. Placed Token (SeenNext text) (behind_in text) (expr h v.j p.start) c s mid) tree pl)

      of : (b : Bool) → g.computed ≡ b → SuperGiven text o h u m mid Q (takes p.rank Call)
      of true comp =
          let b = run_part Token (SeenNext text) (behind_in text) (retell Token (SeenNext text) (behind_in text) (q ∙ ap (λ v2. sub base ∷ goes_to h v.j p.start (cond v2 in_brackets (sign "." ∷ put word ∷ []))) comp) d) in
          let none_here = (base_given b.spelled).pairs in
          let sign_is = run_token Token (SeenNext text) (behind_in text) b.runs in
          let runs : RunsIn text o (anywhere in_brackets) b.rest b.mid mid Q = subst (λ c. RunsIn text o (anywhere in_brackets) b.rest b.mid mid c) (sym (b.pairs ∙ ap (λ c. c ++ b.more) none_here)) b.runs in
          found_member link.Index tree kind (member_flags Token (SeenNext text) (behind_in text) (seen_determined text) g true opt comp) lean ends b.parts (subst (λ c. SpellsIn text o base b.item s b.mid c) none_here b.spelled) r tk runs (sees_so (takes p.rank Call) sign_is.reads refl (goes_index (takes p.rank Call) sign_is.sign sign_is.reads.class sign_is.reads.text)) (other_sign sign_is.reads dot_index)
      of false comp =
          let b = run_part Token (SeenNext text) (behind_in text) (retell Token (SeenNext text) (behind_in text) (q ∙ ap (λ v2. sub base ∷ goes_to h v.j p.start (cond v2 in_brackets (sign "." ∷ put word ∷ []))) comp) d) in
          let none_here = (base_given b.spelled).pairs in
          let sign_is = run_token Token (SeenNext text) (behind_in text) b.runs in
          let runs : RunsIn text o (anywhere (subscript_after link.Name false b.rest)) b.rest b.mid mid Q = retell Token (SeenNext text) (behind_in text) (ap (λ k. anywhere (sign "." ∷ property_name k ∷ [])) (sym (name_leads (run_part Token (SeenNext text) (behind_in text) sign_is.runs))))
          (subst (λ c. RunsIn text o (anywhere (sign "." ∷ put word ∷ [])) b.rest b.mid mid c) (sym (b.pairs ∙ ap (λ c. c ++ b.more) none_here)) b.runs) in
          found_member link.Name tree kind (member_flags Token (SeenNext text) (behind_in text) (seen_determined text) g false opt comp) lean ends b.parts (subst (λ c. SpellsIn text o base b.item s b.mid c) none_here b.spelled) r tk runs (sees_so (takes p.rank Call) sign_is.reads refl (goes_dot (takes p.rank Call) sign_is.sign sign_is.reads.class sign_is.reads.text)) (plain_word sign_is.reads (run_part Token (SeenNext text) (behind_in text) sign_is.runs).spelled)
  super_cored {p} {o} {m} {s} {u} {mid} {Q} {a} {h} r v (in_way {k = k} {w = w} {g = g} {st = st} {en = en} {ps = ps} tree (head_super_call kind opt sup tk q) lean pl d) =
      let ends = placed_ends text r (subst (λ c. Placed Token (SeenNext text) (behind_in text) (expr h v.j p.start) c s mid) tree pl) in
      let b = run_part Token (SeenNext text) (behind_in text) (retell Token (SeenNext text) (behind_in text) q d) in
      let none_here = (base_given b.spelled).pairs in
      let paren = run_token Token (SeenNext text) (behind_in text) (retell Token (SeenNext text) (behind_in text) (ap (λ v2. goes_to h v.j p.start (arguments (others (bare_parts v2)))) b.parts) b.runs) in
      let rest : RunsIn text o (argument_pieces b.rest) b.rest paren.mid mid b.more = retell Token (SeenNext text) (behind_in text) (arguments_fixed h v.j p.start (bare_parts b.rest)) paren.runs in
      let behind : RunsIn text o (anywhere (arguments b.rest)) b.rest b.mid mid b.more = retell Token (SeenNext text) (behind_in text) (ap anywhere (arguments_bare b.rest)) (step (token paren.reads) rest) in
      let runs : RunsIn text o (anywhere (arguments b.rest)) b.rest b.mid mid Q = subst (λ c. RunsIn text o (anywhere (arguments b.rest)) b.rest b.mid mid c) (sym (b.pairs ∙ ap (λ c. c ++ b.more) none_here)) behind in
      found_member link.Arguments tree kind (call_flags Token (SeenNext text) (behind_in text) (seen_determined text) g opt) lean ends b.parts (subst (λ c. SpellsIn text o base b.item s b.mid c) none_here b.spelled) r tk runs
      (sees_so (takes p.rank Call) paren.reads refl (goes_call (takes p.rank Call) paren.sign (wholly_takes v.whole Call (v.begun.reached.taken Call tk)) paren.reads.class paren.reads.text)) (other_sign paren.reads dot_call)

  -- what is given behind the word
  pub super_given : {p : ExpressionContext} {o : ℕ} {n : Tree} {s u to : Token} {Q : List Pair} {a : Reading} {h : Rank} → ReadBy Token (SeenNext text) (behind_in text) RegExp s u u → expression_start u ≡ with_super → FirstAs text p o n s to Q a h → (a ≡ as_expression) × SuperGiven text o h u n to Q (takes p.rank Call)
  super_given r opens g = let v = given_core text r (ap is_bracket opens) (ap is_named opens) g in (v.reading, super_cored r v (core_by Token (SeenNext text) (behind_in text) (seen_determined text) r opens v.begun.core))
