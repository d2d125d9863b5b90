-- A call of `async`, which is read at once: where it stands first in an expression that is given (ECMA-262, 13th edition, 15.9).
use Rattle.std.proofs.Common.{◌≡◌, ℕ, Bool, true, false, List, [], ◌++◌, refl, sym, ap, ◌∙◌, subst, arith}
use Rattle.std.specs.Prelude.{IsTrue, codes, ◌&&◌}
use Rattle.std.proofs.lemmas.Bool.{false≢true, and_parts}
use Rattle.std.proofs.lemmas.Slice.Eq.{bytes_eq-Decides}
use Rattle.tokens.specs.declared.token.TokenClass.{TokenClass}
use Rattle.tokens.specs.declared.token.TokenClass.TheVariants.{IdentifierName, Punctuator}
use Rattle.tokens.specs.declared.token.Goal.TheVariants.{Div, RegExp}
use Rattle.tokens.specs.Goals.{allows}
use Rattle.tree.specs.declared.kind.Kind.{Kind}
use Rattle.tree.specs.declared.kind.Kind.TheVariants.{Identifier, CallExpression, ArrowFunctionExpression, FunctionExpression}
use Rattle.tree.specs.declared.kind.Flags.{Flags}
use Rattle.tree.specs.declared.kind.Pair.{Pair}
use Rattle.tree.specs.Tree.{Tree, node, plain, Parts, part, none, kind_of, bare, bare_parts, height}
use Rattle.tree.specs.Uses.{is_lean, used_flags, has_text}
use Rattle.tree.proofs.Lean.{lean_flags, lean_text}
use Rattle.language.specs.declared.Rank.{Rank}
use Rattle.language.specs.declared.Rank.TheVariants.{Expression, Assignment, Call}
use Rattle.language.specs.declared.Start.{Start}
use Rattle.language.specs.declared.Edge.TheVariants.{Other}
use Rattle.language.specs.Languages.{is_of_2022}
use Rattle.language.specs.Vocabulary.{is, takes, is_identifier, Operator, op_none, op_call}
use Rattle.language.specs.Token.{Token, same_class}
use Rattle.language.specs.Edges.{edge, edge_as_written}
use Rattle.language.specs.ExpressionStart.{with_name}
use Rattle.language.specs.Pieces.{Role, expr, chain_part, PieceOf}
use Rattle.language.specs.Promises.{ReadBy, is_free}
use Rattle.language.specs.Grammar.{spellings}
use Rattle.language.specs.Derivation.{Reads, Placed, placed}
use Rattle.language.proofs.table.Begins.{retell}
use Rattle.language.proofs.table.ViewIsComplete.{way_of, made}
use Rattle.language.proofs.table.LeftRecursiveWays.{Led, led_of, led_chain, led_call, linked_of}
use Rattle.language.proofs.table.TokenFirstWays.{head_identifier, head_short_arrow, head_async, opens, identifier_opens, async_function, async_name, async_parameters, async_free}
use Rattle.language.proofs.climbing.Spine.{Grows, whole, grow, grows_on_spine}
use Rattle.language.proofs.climbing.SpineContinuations.{led_read, linked_read}
use Rattle.language.proofs.climbing.NoContinuation.{Ended, no_spine}
use Rattle.language.proofs.climbing.OperatorLoop.{LedOn, grows_height}
use Rattle.language.proofs.climbing.FirstTurn.{Begun}
use Rattle.language.proofs.climbing.Leaves.{by_name}
use Rattle.unambiguity_laws.proofs.cores.WordCores.{leaf_same}
use Rattle.language.proofs.climbing.LeftmostParts.{Cored, in_way, core_by, core_of, Cores}
use Rattle.language.proofs.climbing.Targets.{led_behind}
use Rattle.language.proofs.climbing.Suffixes.{call_flags}
use Rattle.language.proofs.list_loops.FirstPieces.{run_token}
use Rattle.token_cursor.proofs.SeenTokens.{seen_determined}
use Rattle.token_cursor.specs.Seen.{ReadsHere}
use Rattle.token_cursor.specs.SourceText.{SourceText, SeenNext, behind_in}
use Rattle.parser_tables.specs.declared.expression_context.ExpressionContext.{ExpressionContext}
use Rattle.recursive_descent.specs.Completeness.{Unasync, AsyncCalled}
use Rattle.recursive_descent.specs.Spelled.{SpellsIn}
use Rattle.recursive_descent.proofs.complete_expressions.Agreement.{read_here}
use Rattle.language.specs.FirstPart.{others}
use Rattle.language.specs.Expressions.{arguments}
use Rattle.language.proofs.table.Begins.{goes_to}
use Rattle.language.proofs.climbing.BinaryTurns.{same_node}
use Rattle.recursive_descent.specs.Soundness.{RunsIn, anywhere}
use Rattle.recursive_descent.proofs.sound_expressions.GroupContents.{same_arguments}

-- the way of a call
record CallWay (k : Kind) (y : Rank) (i : Bool) (f : Start) (g : Flags) (ps : Parts) (rest : List (PieceOf Role)) : Type 0 where
  kind : k ≡ CallExpression
  optional : g.optional ≡ false
  stands : IsTrue (takes y Call)
  rest_is : rest ≡ goes_to y i f (arguments (others ps))

call_way : {y : Rank} {i : Bool} {f : Start} {k : Kind} {w : List ℕ} {g : Flags} {ps : Parts} {b : Role} {rest : List (PieceOf Role)} → Led y i f k w g ps b rest op_call → CallWay k y i f g ps rest
call_way (led_call k o s tk b e) = record { kind = k; optional = o; stands = tk; rest_is = e }

named : (c : TokenClass) → same_class IdentifierName c ≡ true → c ≡ IdentifierName
named IdentifierName h = refl
named _ h = cc

signed : (c : TokenClass) → same_class Punctuator c ≡ true → c ≡ Punctuator
signed Punctuator h = refl
signed _ h = cc

identified : (k : Kind) → is_identifier k ≡ true → k ≡ Identifier
identified Identifier h = refl
identified _ h = cc

-- where an arrow may stand, so may a call
call_taken : (y : Rank) → IsTrue (takes y Assignment) → takes y Call ≡ true
call_taken Expression h = refl
call_taken Assignment h = refl
call_taken _ h = cc

abbrev is_paren : Token → Bool
is_paren t = same_class Punctuator t.class && is t.text "("

abbrev is_async_word : Token → Bool
is_async_word t = same_class IdentifierName t.class && is t.text "async"

-- an identifier's right edge
identifier_edge : (n : Tree) → kind_of n ≡ Identifier → edge n ≡ Other
identifier_edge (node Identifier w g st en ps) h = refl
identifier_edge (node _ w g st en ps) h = cc

both_true : {a b : Bool} → a ≡ true → b ≡ true → (a && b) ≡ true
both_true {a = true} h k = k
both_true {a = false} h k = cc

module _ (text : SourceText) where
  -- what stands so far is the whole, or a token is read behind it
  data ReadsOn (a : Role) (n : Tree) (e : Token) (P : List Pair) (b : Role) (m : Tree) (mid : Token) (Q : List Pair) : Type 0 where
    no_more : Ended Token (SeenNext text) (behind_in text) (seen_determined text) a n e P b m mid Q → ReadsOn a n e P b m mid Q
    one_more : (t x : Token) → ReadBy Token (SeenNext text) (behind_in text) Div mid t x → ReadsOn a n e P b m mid Q

  reads_on : {o : ℕ} {s0 e : Token} {y : Rank} {i : Bool} {f : Start} {n : Tree} {P : List Pair} {h : Rank} {j : Bool} {f' : Start} {m : Tree} {mid : Token} {Q : List Pair} →
      Grows Token (SeenNext text) (behind_in text) o s0 (expr y i f) n e P (expr h j f') m mid Q → ReadsOn (expr y i f) n e P (expr h j f') m mid Q
  unfolding spellings
  reads_on whole = no_more (record { role = refl; tree = refl; place = refl; pairs = refl })
  reads_on {h = h} {j = j} {f' = f'} (grow {c = expr y2 i2 f2} {l = node k w g st en ps} {rest = rest} t led pl eq d gs) =
      let v = way_of t in
      let u = led_of y2 i2 f2 (made k v.listed) v.fit v.is led in
      let w = led_read Token (SeenNext text) (behind_in text) (seen_determined text) u.led (some u.led) d in
      one_more w.token w.mid w.read
    where
      some : {y : Rank} {i : Bool} {f : Start} {k : Kind} {w : List ℕ} {g : Flags} {ps : Parts} {rest : List (PieceOf Role)} {x : Operator} → Led y i f k w g ps (expr h j f') rest x → x ≡ op_none → ⊥
      some (led_chain k c tk b e) x = no_spine b
      some _ x = cc
  reads_on (grow {c = chain_part f2} {l = node k w g st en ps} t led pl eq d gs) =
      let v = way_of t in
      let w = linked_read Token (SeenNext text) (behind_in text) (seen_determined text) (linked_of f2 k v.listed v.is).linked d in
      one_more w.token w.mid w.read
  reads_on (grow {c = _} t led pl eq d gs) = absurd (false≢true (grows_on_spine Token (SeenNext text) (behind_in text) refl gs))

  -- a sign that is read is what the goal behind an operand reads
  paren_read : {s x : Token} → ReadsHere text Punctuator (codes "(") s x → ReadBy Token (SeenNext text) (behind_in text) Div s (behind_in text x) x
  paren_read {x = x} h = record { next = h.next; allowed = subst (λ c. IsTrue (allows Div c (behind_in text x).text)) (sym h.class) (subst (λ c. IsTrue (allows Div Punctuator c)) (sym h.text) refl) }

  -- the leftmost part of what is given isn't the name of a call that is read at once, or the call is on its spine
  pub data AsyncSplit (p : ExpressionContext) (o : ℕ) (t : Tree) (s m : Token) (n : Tree) (e : Token) (P : List Pair) : Type 0 where
    not_called : Unasync text p t s m → AsyncSplit p o t s m n e P
    is_called : {u : Tree} {h : Rank} {j : Bool} {g : Start} {to : Token} {R : List Pair} → IsTrue (takes p.rank Assignment) → AsyncCalled text o u s to R → IsTrue (takes h Call) → SpellsIn text o (expr h j g) u s to R →
        Grows Token (SeenNext text) (behind_in text) o s (expr p.rank p.has_in p.start) n e P (expr h j g) u to R → AsyncSplit p o t s m n e P

  module _ {p : ExpressionContext} {o : ℕ} {n : Tree} {s e : Token} {P : List Pair} {h : Rank} {j : Bool} {t : Tree} {m : Token} {Q : List Pair} (b : Begun Token (SeenNext text) (behind_in text) (seen_determined text) o s p.rank p.has_in p.start n e P h j t m Q) where
    -- the way that goes on with the `(`
    call_on : {x : Token} → ReadsHere text Punctuator (codes "(") m x → IsTrue (takes p.rank Assignment) → kind_of t ≡ Identifier → LedOn Token (SeenNext text) (behind_in text) (seen_determined text) o s (expr p.rank p.has_in p.start) n e P h j p.start t m Q op_call
    call_on paren tk kind = led_behind Token (SeenNext text) (behind_in text) (seen_determined text) Call b (ap (λ c. edge_as_written c (behind_in text m)) (identifier_edge t kind)) paren refl refl refl refl (λ e. cc) (call_taken p.rank tk)

    called : {x k : Token} → ReadsHere text Punctuator (codes "(") m x → x.after_break ≡ false → IsTrue (takes p.rank Assignment) → is_of_2022 text.language ≡ true → kind_of t ≡ Identifier → ReadsHere text IdentifierName (codes "async") s k → AsyncSplit p o t s m n e P
    called {x} {k} paren line tk later kind name = of (core_by Token (SeenNext text) (behind_in text) (seen_determined text) r (opens (behind_in text k) name.class name.text (identifier_opens (codes "async") async_free)) b.core)
      where
        r : ReadBy Token (SeenNext text) (behind_in text) RegExp s (behind_in text k) k
        r = record { next = name.next; allowed = (seen_determined text).free RegExp s (behind_in text k) k name.next (ap is_free name.class) }

        on : LedOn Token (SeenNext text) (behind_in text) (seen_determined text) o s (expr p.rank p.has_in p.start) n e P h j p.start t m Q op_call
        on = call_on paren tk kind

        way : CallWay on.k on.y on.i on.f on.g (bare_parts (part t on.ps)) on.rest
        way = call_way on.led

        word : Tree
        word = node Identifier (codes "async") plain k.start k.stop none

        call : Tree
        call = node CallExpression [] plain k.start on.to.stop (part word on.ps)

        made_call : m ≡ k → t ≡ word → Q ≡ [] → AsyncSplit p o t s m n e P
        made_call place tree pairs =
            let flags : on.g ≡ plain = lean_flags (bare (node on.k on.w on.g on.st on.en (part t on.ps))) on.lean ∙ ap (λ c. used_flags c on.g) way.kind ∙ call_flags Token (SeenNext text) (behind_in text) (seen_determined text) on.g way.optional in
            let texts : on.w ≡ [] = lean_text (bare (node on.k on.w on.g on.st on.en (part t on.ps))) on.lean (ap has_text way.kind) in
            let span = spans on.placed in
            let same : node on.k on.w on.g on.st on.en (part t on.ps) ≡ call = same_node way.kind texts flags span.0 span.1 (ap (λ c. part c on.ps) tree) in
            let added : Q ++ on.more ≡ on.more = ap (λ c. c ++ on.more) pairs in
            is_called {u = call} {to = on.to} {R = on.more} tk
            (record { later = later; word = k; paren = x; given = on.ps; name = name; sign = subst (λ c. ReadsHere text Punctuator (codes "(") c x) place paren; line = line; tree = refl; runs = subst (λ c. RunsIn text o (anywhere (arguments on.ps)) on.ps c on.to on.more) place (retell Token (SeenNext text) (behind_in text) (way.rest_is ∙ same_arguments on.y on.i on.f on.ps) on.runs) })
            way.stands
            (subst (λ c. SpellsIn text o (expr on.y on.i on.f) call s on.to c) added (subst (λ c. SpellsIn text o (expr on.y on.i on.f) c s on.to (Q ++ on.more)) same on.spelled))
            (subst (λ c. Grows Token (SeenNext text) (behind_in text) o s (expr p.rank p.has_in p.start) n e P (expr on.y on.i on.f) call on.to c) added (subst (λ c. Grows Token (SeenNext text) (behind_in text) o s (expr p.rank p.has_in p.start) n e P (expr on.y on.i on.f) c on.to (Q ++ on.more)) same on.grows))
          where
            spans : {y : Rank} {i : Bool} {f : Start} {c : Kind} {w : List ℕ} {g : Flags} {st en : ℕ} {ps : Parts} {to : Token} → Placed Token (SeenNext text) (behind_in text) (expr y i f) (node c w g st en ps) s to → (st ≡ k.start) × (en ≡ to.stop)
            spans (placed {t = t0} {m = m0} nx q) = (sym (ap (λ (v : ℕ × ℕ). v.0) q) ∙ (seen_determined text).start s t0 (behind_in text k) m0 k nx name.next, sym (ap (λ (v : ℕ × ℕ). v.1) q))

        of : Cored Token (SeenNext text) (behind_in text) (seen_determined text) o h j p.start t s m Q with_name → AsyncSplit p o t s m n e P
        of (in_way {k = k0} {w = w} {g = g} {st = st} {en = en} {ps = ps} tree (head_identifier kd c q) lean pl d) =
            let bares : is_lean (bare (node k0 w g st en ps)) ≡ true = ap (λ v. is_lean (bare v)) (sym tree) ∙ lean in
            let a = run_token Token (SeenNext text) (behind_in text) (retell Token (SeenNext text) (behind_in text) q d) in
            let here = (by_name Token (SeenNext text) (behind_in text) (seen_determined text) r a.sign a.mid a.reads).0 in
            let word_is : w ≡ codes "async" = sym a.reads.text ∙ ap (λ (v : Token). v.text) here ∙ name.text in
            let leaf = leaf_same Token (SeenNext text) (behind_in text) (seen_determined text) tree kd (lean_flags (bare (node k0 w g st en ps)) bares ∙ ap (λ v. used_flags v g) kd) pl (retell Token (SeenNext text) (behind_in text) q d)
            (by_name Token (SeenNext text) (behind_in text) (seen_determined text) r) in
            made_call leaf.0 (leaf.1 ∙ ap (λ v. node Identifier v plain k.start k.stop none) word_is) leaf.2
        of (in_way tree (head_short_arrow kd z p c tk q) lean pl d) = let clash : Identifier ≡ ArrowFunctionExpression = sym kind ∙ ap kind_of tree ∙ kd in cc
        of (in_way tree (head_async (async_function z) st q) lean pl d) = let clash : Identifier ≡ FunctionExpression = sym kind ∙ ap kind_of tree in cc
        of (in_way tree (head_async (async_name z p c tk) st q) lean pl d) = let clash : Identifier ≡ ArrowFunctionExpression = sym kind ∙ ap kind_of tree in cc
        of (in_way tree (head_async (async_parameters z tk) st q) lean pl d) = let clash : Identifier ≡ ArrowFunctionExpression = sym kind ∙ ap kind_of tree in cc

    -- which of the two it is
    pub async_split : AsyncSplit p o t s m n e P
    async_split = of (reads_on b.grows)
      where
        first : (u : Cores Token (SeenNext text) (behind_in text) (seen_determined text) o h j p.start t s m Q) × Unit {0}
        first = (core_of Token (SeenNext text) (behind_in text) (seen_determined text) b.core, tt)

        asked : (x : Token) → ReadsHere text Punctuator (codes "(") m x → x.after_break ≡ false → (w a k l : Bool) → is_async_word first.0.begins.token ≡ w → takes p.rank Assignment ≡ a → is_identifier (kind_of t) ≡ k → is_of_2022 text.language ≡ l → AsyncSplit p o t s m n e P
        asked x paren line true true true true w a k l =
            let word = and_parts (same_class IdentifierName first.0.begins.token.class) (is first.0.begins.token.text "async") w in
            let read = first.0.begins.read in
            let name : Reads Token (SeenNext text) (behind_in text) IdentifierName (codes "async") s first.0.begins.token first.0.begins.mid = record { next = read.next; class = named first.0.begins.token.class word.0; text = (bytes_eq-Decides first.0.begins.token.text (codes "async")).0 word.1 } in
            called paren line a l (identified (kind_of t) k) (read_here text name)
        asked x paren line false a k l w a' k' l' = not_called (λ later tk kind v name y sign. absurd (false≢true (sym w ∙
            (let same = (by_name Token (SeenNext text) (behind_in text) (seen_determined text) first.0.begins.read (behind_in text v) v name).0 in
            ap is_async_word (sym same) ∙ both_true (ap (same_class IdentifierName) name.class) (ap (λ z. is z "async") name.text)))))
        asked x paren line w false k l w' a k' l' = not_called (λ later tk kind v name y sign. absurd (false≢true (sym a ∙ tk)))
        asked x paren line w a false l w' a' k l' = not_called (λ later tk kind v name y sign. absurd (false≢true (sym k ∙ ap is_identifier kind)))
        asked x paren line w a k false w' a' k' l = not_called (λ later tk kind v name y sign. absurd (false≢true (sym l ∙ later)))

        sign_there : {u x : Token} → ReadBy Token (SeenNext text) (behind_in text) Div m u x → (c d : Bool) → is_paren u ≡ c → x.after_break ≡ d → AsyncSplit p o t s m n e P
        sign_there {u} {x} r false d c d' = not_called (λ later tk kind v name y sign. absurd (false≢true (sym c ∙
            (let same = ((seen_determined text).same Div m u (behind_in text y) x y r.next sign.next r.allowed (paren_read sign).allowed).0 in
            ap is_paren same ∙ both_true (ap (same_class Punctuator) sign.class) (ap (λ z. is z "(") sign.text)))))
        sign_there {u} {x} r c true c' d = not_called (λ later tk kind v name y sign. ap (λ (z : Token). z.after_break) (sym ((seen_determined text).same Div m u (behind_in text y) x y r.next sign.next r.allowed (paren_read sign).allowed).1) ∙ d)
        sign_there {u} {x} r true false c d =
            let is_it = and_parts (same_class Punctuator u.class) (is u.text "(") c in
            let paren : Reads Token (SeenNext text) (behind_in text) Punctuator (codes "(") m u x = record { next = r.next; class = signed u.class is_it.0; text = (bytes_eq-Decides u.text (codes "(")).0 is_it.1 } in
            asked x (read_here text paren) d (is_async_word first.0.begins.token) (takes p.rank Assignment) (is_identifier (kind_of t)) (is_of_2022 text.language) refl refl refl refl

        of : ReadsOn (expr p.rank p.has_in p.start) n e P (expr h j p.start) t m Q → AsyncSplit p o t s m n e P
        of (one_more u x r) = sign_there r (is_paren u) x.after_break refl refl
        of (no_more ended) = not_called (λ later tk kind v name y sign.
            let on = call_on sign tk kind in
            let high = grows_height Token (SeenNext text) (behind_in text) (seen_determined text) on.grows in
            let same : height n ≡ height t = ap height ended.tree in
            absurd (omega arith))
