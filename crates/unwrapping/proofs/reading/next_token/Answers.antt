use Rattle.std.proofs.Common.{◌≡◌, ◌≤◌, ◌<◌, sym, subst, arith}
use Rattle.tokens.specs.Reading.{Reads}
use Rattle.tokens.specs.Scanned.{token_of}
use Rattle.tree.specs.Flat.{post_order}
use Rattle.unwrapping.specs.declared.note.Note.{Note}
use Rattle.unwrapping.specs.Readings.{AreNoted, InOrder}
use Rattle.unwrapping.proofs.FirstRows.{first_some, first_none}
use Rattle.unwrapping.proofs.NoteSteps.{goal_unnoted, goal_before, goal_noted, noted_after}
use Rattle.unwrapping.proofs.reading.next_token.Goals as goal

pub returns-in_default-first-clause-read : goal.returns-in_default-first-clause-read
returns-in_default-first-clause-read c = λ n a.
    let none = first_none {X = Note} c.args.notes.now c.in_default-first.ensures.value in
    let is = goal_unnoted n c.args.at c.in-Ok.token.start (subst (AreNoted (post_order n) c.args.at) none a) c.in-Ok.ensures.within.0 in
    subst (λ g. Reads c.args.source.now g c.args.at (token_of c.in-Ok.token)) (sym is) c.in-Ok.ensures.ok

pub returns-then-note-token-clause-read : goal.returns-then-note-token-clause-read
returns-then-note-token-clause-read c = λ n a.
    let e = first_some {X = Note} c.args.notes.now c.in-Some.note.now c.in-Some.ensures.value in
    let is = goal_before n c.args.at c.in-Ok.token.start c.in-Some.note.now _ (subst (AreNoted (post_order n) c.args.at) e a) (subst InOrder e c.requires.order) c.in-Ok.ensures.within.0 c.if-note-token.true in
    subst (λ g. Reads c.args.source.now g c.args.at (token_of c.in-Ok.token)) (sym is) c.in-Ok.ensures.ok

pub returns-clause-read : goal.returns-clause-read
returns-clause-read c = λ n a.
    let e = first_some {X = Note} c.args.notes.now c.in-Some.note.now c.in-Some.ensures.value in
    let t = c.in-Some-noted_token.token in
    let high = c.if-note-token.false in
    let low = c.if-note-token-2.false in
    let start = c.in-Some-noted_token.ensures.start in
    let here : c.in-Some.note.now.at ≡ t.start = omega arith in
    let is = goal_noted n c.args.at t.start c.in-Some.note.now _ (subst (AreNoted (post_order n) c.args.at) e a) (subst InOrder e c.requires.order) c.in-Some-noted_token.ensures.within.0 here in
    subst (λ g. Reads c.args.source.now g c.args.at (token_of t)) (sym is) c.in-Some-noted_token.ensures.read

pub returns-clause-noted : goal.returns-clause-noted
returns-clause-noted c = λ n a.
    let e = first_some {X = Note} c.args.notes.now c.in-Some.note.now c.in-Some.ensures.value in
    let t = c.in-Some-noted_token.token in
    let high = c.if-note-token.false in
    let start = c.in-Some-noted_token.ensures.start in
    let goes = c.if-token.false in
    let from = c.in-Some-noted_token.ensures.within.0 in
    let within : c.args.at ≤ t.end = omega arith in
    let passed : c.in-Some.note.now.at < t.end = omega arith in
    noted_after (post_order n) c.args.at t.end c.in-Some.note.now _ (subst (AreNoted (post_order n) c.args.at) e a) within passed
