-- Static blocks of classes (ECMA-262, 13th edition, 15.7).
use Rattle.std.proofs.Common.{◌≡◌, ℕ, true, false, List, [], ◌∷◌, refl, sym, ap, ◌∙◌, subst}
use Rattle.std.specs.Prelude.{codes}
use Rattle.tokens.specs.declared.token.TokenClass.TheVariants.{IdentifierName, Punctuator}
use Rattle.tokens.specs.declared.token.Goal.TheVariants.{RegExp, Div}
use Rattle.tokens.specs.Tokens.{LexicalToken}
use Rattle.tokens.specs.Reading.{Reads as Scans}
use Rattle.token_cursor.specs.CursorState.{CursorState}
use Rattle.token_cursor.specs.Seen.{ReadsHere}
use Rattle.token_cursor.specs.SourceText.{SourceText, SeenNext, behind_in}
use Rattle.token_cursor.proofs.SeenTokens.{seen_determined}
use Rattle.token_cursor.proofs.TokensAhead.{name_by}
use Rattle.tree.specs.declared.kind.Kind.TheVariants.{StaticBlock}
use Rattle.tree.specs.declared.kind.Pair.{Pair}
use Rattle.tree.specs.Tree.{Tree, node, plain, Parts, bare_parts}
use Rattle.covers.specs.declared.list.ListItem.{ListItem}
use Rattle.language.specs.declared.Rank.TheVariants.{Expression, Primary}
use Rattle.language.specs.declared.Start.TheVariants.{Any}
use Rattle.language.specs.Pieces.{Spelling, member, item, term, sp, sign, at as at_symbol}
use Rattle.language.specs.Promises.{is_free}
use Rattle.language.specs.Statements.{prologue, lines}
use Rattle.language.specs.Token.{Token}
use Rattle.language.specs.Grammar.{spellings}
use Rattle.language.specs.Derivation.{first, placed, direct, step, token, laid}
use Rattle.language.proofs.lower_bound.Domination.{settled}
use Rattle.language.proofs.table.Productions.{way_from, runs_can}
use Rattle.language.proofs.table.StatementWays.{behind_brace}
use Rattle.parser_tables.specs.Outcomes.{BeginsBy}
use Rattle.recursive_descent.specs.Later.{BeginsStaticBlock}
use Rattle.recursive_descent.specs.Soundness.{RunsIn, anywhere, Adds}
use Rattle.recursive_descent.specs.SoundnessOfLists.{ItemReads, defined}
use Rattle.recursive_descent.specs.SoundnessOfStatements.{StatementsAt}
use Rattle.recursive_descent.specs.Spelled.{SpellsIn}
use Rattle.parser_tables.specs.declared.statements.StatementContext.{StatementContext}
use Rattle.recursive_descent.proofs.reading.AddedPairs.{adds_behind}
use Rattle.recursive_descent.proofs.reading.Forward.{place_by}
use Rattle.recursive_descent.proofs.sound_properties.Fields.{field_item, member_item}
use Rattle.recursive_descent.proofs.sound_statements.Blocks.{items_laid}
use Rattle.recursive_descent.proofs.sound_subscripts.SubscriptReads.{adds_then}

-- it begins where its first token does, by whatever goal that is read
pub block_begins : (s : CursorState) {at : ℕ} → ((u : LexicalToken) → Scans s.text.bytes Div s.last.stop u → at ≡ u.start) → BeginsStaticBlock s.text s.last → BeginsBy s at
block_begins s here begins t m r =
    let word = begins.1.1 in
    let by = name_by s.text word in
    let free = (seen_determined s.text).free RegExp s.last (behind_in s.text begins.1.0) begins.1.0 word.next (ap is_free word.class) in
    place_by s.text here by ∙ ap (λ (x : Token). x.start) ((seen_determined s.text).same RegExp s.last (behind_in s.text begins.1.0) t begins.1.0 m word.next r.next free r.allowed).0

-- and so where its beginning was taken before
pub block_begins_at : (s h : CursorState) {at : ℕ} → h.text ≡ s.text → h.last ≡ s.last → ((u : LexicalToken) → Scans s.text.bytes Div s.last.stop u → at ≡ u.start) → BeginsStaticBlock h.text h.last → BeginsBy h at
block_begins_at s h {at} text last here = block_begins h (subst (λ t. (u : LexicalToken) → Scans t.bytes Div h.last.stop u → at ≡ u.start) (sym text) (subst (λ l. (u : LexicalToken) → Scans s.text.bytes Div l.stop u → at ≡ u.start) (sym last) here))

module _ (text : SourceText) where
  block_spelled : {o st : ℕ} (ps : Parts) {s x y m e : Token} {P : List Pair} → ReadsHere text IdentifierName (codes "static") s x → x.start ≡ st → ReadsHere text Punctuator (codes "{") x y → RunsIn text o (anywhere (prologue false false [] [] ps)) ps y m P → ReadsHere text Punctuator (codes "}") m e →
      SpellsIn text o member (node StaticBlock [] plain st e.stop ps) s e P
  unfolding spellings
  block_spelled {o} {st} ps {s} {x} {y} {m} {e} {P} word start opens d closes =
      let way : Spelling = at_symbol Primary (term "static" ∷ sp ∷ sign "{" ∷ behind_brace (bare_parts ps) (lines (item false) (bare_parts ps))) in
      let tree : Tree = node StaticBlock [] plain st e.stop ps in
      let whole : RunsIn text o (anywhere way.pieces) ps s e P = step (token word) (step laid (items_laid text false ps opens d closes)) in
      direct (settled member way) (way_from member tree way refl first (runs_can Token (SeenNext text) (behind_in text) Expression true Any way.pieces whole)) (placed word.next (ap (λ (x : ℕ). (x, e.stop)) start)) whole

pub static_block_item : {s x y z e : CursorState} {old p1 p2 p3 new : List Pair} {c : StatementContext} (start : ℕ) (ps : Parts) (it : ListItem) → BeginsBy s start → x.text ≡ s.text → x.opened ≡ s.opened → p1 ≡ old → ReadsHere s.text IdentifierName (codes "static") s.last x.last →
    y.text ≡ x.text → y.opened ≡ x.opened → p2 ≡ p1 → ReadsHere x.text Punctuator (codes "{") x.last y.last → c.is_item ≡ true → c.returns ≡ false → c.is_prologue ≡ false → z.text ≡ y.text → Adds y z p2 p3 (StatementsAt y.text c ps) → e.opened ≡ z.opened → new ≡ p3 → ReadsHere z.text Punctuator (codes "}") z.last e.last →
    it ≡ field_item (node StaticBlock [] plain start e.last.stop ps) → Adds s e old new (ItemReads s.text (defined true) it)
static_block_item {s} {x} {y} {z} {e} {c = c} start ps it here text0 open0 same0 word text1 open1 same1 opens is_item returns begins text2 items open2 same2 closes is =
    adds_then (adds_behind {s = s} {m = y} {e = z} {B = λ o a k Q. RunsIn s.text o (anywhere (prologue false false [] [] ps)) ps y.last z.last Q} (open1 ∙ open0) (same1 ∙ same0) items (λ o Q d.
    subst (λ v. RunsIn v o (anywhere (prologue false false [] [] ps)) ps y.last z.last Q) (text1 ∙ text0) (subst (λ q. RunsIn y.text o (anywhere q) ps y.last z.last Q) (λ i. prologue (returns i) (begins i) [] [] ps) (d is_item)))) open2 same2 (λ o Q d.
    let by = (seen_determined s.text).free RegExp s.last (behind_in s.text x.last) x.last word.next (ap is_free word.class) in
    let start_is : x.last.start ≡ start = sym (here (behind_in s.text x.last) x.last (record { next = word.next; allowed = by })) in
    let whole = block_spelled s.text ps word start_is (subst (λ v. ReadsHere v Punctuator (codes "{") x.last y.last) text0 opens) d (subst (λ v. ReadsHere v Punctuator (codes "}") z.last e.last) (text2 ∙ text1 ∙ text0) closes) in
    subst (λ v. ItemReads s.text (defined true) v o s.last e.last Q) (sym is) (member_item s.text {item = field_item (node StaticBlock [] plain start e.last.stop ps)} refl whole))
