-- The turns of the loop over a gap: what is passed so far, and the comments that are left.
use Rattle.std.proofs.Common.{◌≡◌, ℕ, ◌+◌, ◌<◌, ◌≤◌, Bool, List, [], ◌∷◌, ◌++◌, IsTrue, refl, sym, ap, ◌∙◌, append_assoc, append-nil, arith}
use Rattle.std.specs.Prelude.{encode_utf8_all, slice_range}
use Rattle.std.specs.List.{list_any}
use Rattle.std.specs.Str.{IsUtf8}
use Rattle.std.proofs.lemmas.Str.{len_utf8_bounds}
use Rattle.std.proofs.lemmas.List.{append_cancel_left, map-append}
use Rattle.source_text.specs.Lines.{is_line_terminator}
use Rattle.source_text.specs.Source.{IsPlace}
use Rattle.tokens.specs.Comments.{is_comment, Separators, nothing, blank, comment}
use Rattle.tokens.specs.Tokens.{size}
use Rattle.tokens.specs.Reading.{behind}
use Rattle.tokens.specs.Scanned.{Passed, IsCommentRest}
use Rattle.tokens.proofs.PassedCharacters.{size_append, size_one, passed_on, passed_slice}
use Rattle.tokens.proofs.TriviaSteps.{begins_slash}
use Rattle.tokens.proofs.TokenUniqueness.{comment_same}
use Rattle.unwrapping.specs.declared.comment.CommentRow.{CommentRow}
use Rattle.unwrapping.specs.Keeps.{Comment, comments}
use Rattle.unwrapping.specs.Readings.{bytes_in, comment_in, comments_in, SaysComments}
use Rattle.unwrapping.proofs.OneReading.{slash_no_blank}

pub size_cons : (c : ℕ) (cs : List ℕ) → size (c ∷ cs) ≡ size (c ∷ []) + size cs
size_cons c cs = size_append (c ∷ []) cs

pub size_positive : (c : ℕ) (cs : List ℕ) → 1 ≤ size (c ∷ cs)
size_positive c cs = let a = size_cons c cs in let b = size_one c in let l = (len_utf8_bounds c).0 in omega arith

-- what is left of a gap from a place on, where its comments from there on are these
pub record IsLeft (text : List ℕ) (place stop : ℕ) (said : List Comment) : Type 0 where
  pub gap : List ℕ
  pub between : Passed text place stop gap
  pub separated : Separators gap (behind text stop)
  pub same : said ≡ comments separated

-- whatever separators stand in a gap, their comments are those that were added, and then those that are left
pub record IsPassing (text : List ℕ) (at place stop : ℕ) (old new : List CommentRow) : Type 0 where
  pub here : IsPlace text place
  pub left : (gap : List ℕ) → Passed text at stop gap → (separated : Separators gap (behind text stop)) →
      (said : List Comment) × (IsLeft text place stop said × (comments_in text old ++ comments separated ≡ comments_in text new ++ said))

pub begins_passing : (text : List ℕ) (at stop : ℕ) (spans : List CommentRow) → IsPlace text at → IsPassing text at at stop spans spans
begins_passing text at stop spans p =
    record {
      here = p;
      left = λ gap between separated. (comments separated, (record { gap = gap; between = between; separated = separated; same = refl }, refl));
    }

-- over a character that begins no comment
left_after_blank : (text : List ℕ) (place next stop c : ℕ) (gap : List ℕ) → Passed text place next (c ∷ []) → (c ≡ 0x2F → ⊥) → place < stop → Passed text place stop gap →
    (separated : Separators gap (behind text stop)) → IsLeft text next stop (comments separated)
left_after_blank text place next stop c gap p other lt between nothing = let r = between.reaches in absurd (omega arith)
left_after_blank text place next stop c gap p other lt between (blank {c = d} {gap = g} h others) =
    let whole : c ∷ behind text next ≡ d ∷ (g ++ behind text stop) = sym p.split ∙ between.split in
    let rest : behind text next ≡ g ++ behind text stop = cc in
    let first : c ≡ d = cc in
    let r = between.reaches in
    let n = p.reaches in
    let s : size (d ∷ g) ≡ size (c ∷ []) + size g = size_cons d g ∙ ap (λ x. size (x ∷ []) + size g) (sym first) in
    record { gap = g; between = record { split = rest; reaches = omega arith; place = between.place }; separated = others; same = refl }
left_after_blank text place next stop c gap p other lt between (comment {gap = g} body behind_it q h others) =
    let k = begins_slash body (behind_it ++ behind text stop) h in
    let whole : c ∷ behind text next ≡ 0x2F ∷ ((k.0 ++ behind_it) ++ behind text stop) = sym p.split ∙ between.split ∙ ap (λ x. x ++ behind text stop) (q ∙ ap (λ x. x ++ behind_it) k.1) in
    let first : c ≡ 0x2F = cc in
    absurd (other first)

pub passes_blank : (text : List ℕ) (at place next stop c : ℕ) (old new : List CommentRow) → IsPassing text at place stop old new → Passed text place next (c ∷ []) → (c ≡ 0x2F → ⊥) → place < stop →
    IsPassing text at next stop old new
passes_blank text at place next stop c old new h p other lt =
    record {
      here = p.place;
      left = λ gap between separated.
          let l = h.left gap between separated in
          let i = l.1.0 in
          (comments i.separated, (left_after_blank text place next stop c i.gap p other lt i.between i.separated, l.1.1 ∙ ap (λ x. comments_in text new ++ x) i.same));
    }

-- over a comment, which is the first that is left
left_after_comment : (text : List ℕ) (place next stop : ℕ) (word gap : List ℕ) → Passed text place next word → IsTrue (is_comment word (behind text next)) → place < stop → Passed text place stop gap →
    (separated : Separators gap (behind text stop)) → (said : List Comment) × (IsLeft text next stop said × (comments separated ≡ record { bytes = encode_utf8_all word; has_line_end = list_any is_line_terminator word } ∷ said))
left_after_comment text place next stop word gap p is lt between nothing = let r = between.reaches in absurd (omega arith)
left_after_comment text place next stop word gap p is lt between (blank {c = d} {gap = g} h others) =
    let k = begins_slash word (behind text next) is in
    let whole : 0x2F ∷ (k.0 ++ behind text next) ≡ d ∷ (g ++ behind text stop) = ap (λ x. x ++ behind text next) (sym k.1) ∙ sym p.split ∙ between.split in
    let first : d ≡ 0x2F = cc in
    absurd (slash_no_blank d first h)
left_after_comment text place next stop word gap p is lt between (comment {gap = g} body following q h others) =
    let whole : word ++ behind text next ≡ body ++ (following ++ behind text stop) = sym p.split ∙ between.split ∙ ap (λ x. x ++ behind text stop) q ∙ append_assoc body following (behind text stop) in
    let same : word ≡ body = comment_same word body (behind text next) (following ++ behind text stop) is h whole in
    let rest : behind text next ≡ following ++ behind text stop = append_cancel_left word (behind text next) (following ++ behind text stop) (whole ∙ ap (λ x. x ++ (following ++ behind text stop)) (sym same)) in
    let r = between.reaches in
    let n = p.reaches in
    let s : size g ≡ size word + size following = ap size q ∙ size_append body following ∙ ap (λ x. size x + size following) (sym same) in (
      comments others,
      (
        record { gap = following; between = record { split = rest; reaches = omega arith; place = between.place }; separated = others; same = refl },
        ap (λ x. record { bytes = encode_utf8_all x; has_line_end = list_any is_line_terminator x } ∷ comments others) (sym same),
      ),
    )

pub passes_comment : (text : List ℕ) (at place inner next stop : ℕ) (breaks : Bool) (old new : List CommentRow) (row : CommentRow) → IsUtf8 text → IsPassing text at place stop old new → Passed text place inner (0x2F ∷ []) →
    IsCommentRest text inner next breaks → place < stop → row.span.start ≡ place → row.span.end ≡ next → row.has_line_end ≡ breaks → IsPassing text at next stop old (new ++ row ∷ [])
passes_comment text at place inner next stop breaks old new row u h p rest lt start end broken =
    let all : Passed text place next (0x2F ∷ rest.word) = passed_on text place inner next (0x2F ∷ []) rest.word p rest.passed in
    let bytes : encode_utf8_all (0x2F ∷ rest.word) ≡ bytes_in text row.span = passed_slice text place next (0x2F ∷ rest.word) u h.here all ∙ sym (λ i. slice_range text (start i) (end i)) in
    let ends : list_any is_line_terminator (0x2F ∷ rest.word) ≡ row.has_line_end = sym rest.breaks ∙ sym broken in
    record {
      here = rest.passed.place;
      left = λ gap between separated.
          let l = h.left gap between separated in
          let i = l.1.0 in
          let after = left_after_comment text place next stop (0x2F ∷ rest.word) i.gap all rest.comment lt i.between i.separated in (
            after.0,
            (
              after.1.0,
              l.1.1 ∙ ap (λ x. comments_in text new ++ x) (i.same ∙ after.1.1 ∙ (λ j. record { bytes = bytes j; has_line_end = ends j } ∷ after.0))
                  ∙ sym (append_assoc (comments_in text new) (comment_in text row ∷ []) after.0)
                  ∙ ap (λ x. x ++ after.0) (sym (map-append (comment_in text) new (row ∷ []))),
            ),
          );
    }

-- at the end of the gap none are left
none_left : (text : List ℕ) (place stop : ℕ) (gap rest : List ℕ) → place ≡ stop → stop ≡ place + size gap → (separated : Separators gap rest) → comments separated ≡ []
none_left text place stop gap rest e r nothing = refl
none_left text place stop gap rest e r (blank {c = c} {gap = g} h others) = let s = size_positive c g in absurd (omega arith)
none_left text place stop gap rest e r (comment {gap = g} body following q h others) =
    let k = begins_slash body (following ++ rest) h in
    let s = size_positive 0x2F (k.0 ++ following) in
    let same : size g ≡ size (0x2F ∷ (k.0 ++ following)) = ap size (q ∙ ap (λ x. x ++ following) k.1) in
    absurd (omega arith)

-- an empty gap has no comments
pub none_between : (text : List ℕ) (at stop : ℕ) (rows : List CommentRow) → at ≡ stop → SaysComments text at stop rows rows
none_between text at stop rows e =
    λ gap between separated. sym (ap (λ x. comments_in text rows ++ x) (none_left text at stop gap (behind text stop) e between.reaches separated) ∙ append-nil (comments_in text rows))

pub ends_passing : (text : List ℕ) (at place stop : ℕ) (old new : List CommentRow) → IsPassing text at place stop old new → place ≡ stop →
    (gap : List ℕ) → Passed text at stop gap → (separated : Separators gap (behind text stop)) → comments_in text new ≡ comments_in text old ++ comments separated
ends_passing text at place stop old new h e gap between separated =
    let l = h.left gap between separated in
    let i = l.1.0 in
    let none : l.0 ≡ [] = i.same ∙ none_left text place stop i.gap (behind text stop) e i.between.reaches i.separated in
    sym (l.1.1 ∙ ap (λ x. comments_in text new ++ x) none ∙ append-nil (comments_in text new))
