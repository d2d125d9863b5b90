-- A text has at most one reading by the goals of a tree, with the same bytes and comments between its tokens.
use Rattle.std.proofs.Common.{◌≡◌, ℕ, ◌+◌, Bool, true, false, not, ◌||◌, List, [], ◌∷◌, ◌++◌, IsTrue, refl, sym, ap, ◌∙◌, subst, append_assoc}
use Rattle.std.specs.Prelude.{encode_utf8_all}
use Rattle.std.specs.List.{list_any}
use Rattle.std.proofs.lemmas.Bool.{false≢true}
use Rattle.std.proofs.lemmas.List.{append_cancel_left}
use Rattle.source_text.specs.Lines.{is_line_terminator}
use Rattle.tokens.specs.Alphabet.{is_white_space}
use Rattle.tokens.specs.Comments.{is_comment, Separators, nothing, blank, comment}
use Rattle.tokens.specs.declared.token.Goal.{Goal}
use Rattle.tokens.specs.Tokens.{LexicalToken, IsTokenAt, is_end, size}
use Rattle.tokens.proofs.Beginnings.{true_false}
use Rattle.tokens.proofs.TriviaSteps.{begins_slash}
use Rattle.tokens.proofs.TokenUniqueness.{comment_same, gap_same, token_solid, determined}
use Rattle.tree.specs.Tree.{Tree}
use Rattle.reading_laws.specs.TreeReadings.{tree_goal, IsTreeReading, last, more}
use Rattle.unwrapping.specs.Keeps.{comments, spaced_tokens}

nil_cons : (c : ℕ) (cs : List ℕ) → [] ≡ c ∷ cs → ⊥
nil_cons c cs e = cc

-- no blank begins a comment
pub slash_no_blank : (c : ℕ) → c ≡ 0x2F → IsTrue (is_white_space c || is_line_terminator c) → ⊥
slash_no_blank c e h = true_false _ (subst (λ x. IsTrue (is_white_space x || is_line_terminator x)) e h) refl

-- what begins with a comment isn't empty
pub no_comment_in_nothing : (body behind rest : List ℕ) → [] ≡ body ++ behind → IsTrue (is_comment body rest) → ⊥
no_comment_in_nothing body behind rest e h = let k = begins_slash body rest h in nil_cons 0x2F (k.0 ++ behind) (e ∙ ap (λ x. x ++ behind) k.1)

-- what begins with a comment begins with no blank
pub no_blank_comment : (c : ℕ) (cs body behind rest : List ℕ) → c ∷ cs ≡ body ++ behind → IsTrue (is_white_space c || is_line_terminator c) → IsTrue (is_comment body rest) → ⊥
no_blank_comment c cs body behind rest e b h =
    let k = begins_slash body rest h in
    let whole : c ∷ cs ≡ 0x2F ∷ (k.0 ++ behind) = e ∙ ap (λ x. x ++ behind) k.1 in
    let front : c ≡ 0x2F = cc in
    slash_no_blank c front b

-- the same separators have the same comments
pub comments_same : {g h r s : List ℕ} (a : Separators g r) (b : Separators h s) → g ≡ h → r ≡ s → comments a ≡ comments b
comments_same nothing nothing e f = refl
comments_same nothing (blank {c = c} {gap = gap} x t) e f = absurd (nil_cons c gap e)
comments_same {s = s} nothing (comment body behind q x t) e f = absurd (no_comment_in_nothing body behind (behind ++ s) (e ∙ q) x)
comments_same (blank {c = c} {gap = gap} x t) nothing e f = absurd (nil_cons c gap (sym e))
comments_same {r = r} (comment body behind q x t) nothing e f = absurd (no_comment_in_nothing body behind (behind ++ r) (sym e ∙ q) x)
comments_same (blank {c = c} {gap = gap} x t) (blank {c = d} {gap = other} y u) e f = let rest : gap ≡ other = cc in comments_same t u rest f
comments_same {s = s} (blank {c = c} {gap = gap} x t) (comment body behind q y u) e f = absurd (no_blank_comment c gap body behind (behind ++ s) (e ∙ q) x y)
comments_same {r = r} (comment body behind q x t) (blank {c = d} {gap = other} y u) e f = absurd (no_blank_comment d other body behind (behind ++ r) (sym e ∙ q) y x)
comments_same {r = r} {s = s} (comment body behind q x t) (comment other following p y u) e f =
    let gaps : body ++ behind ≡ other ++ following = sym q ∙ e ∙ p in
    let whole : body ++ (behind ++ r) ≡ other ++ (following ++ s) = sym (append_assoc body behind r) ∙ (λ i. gaps i ++ f i) ∙ append_assoc other following s in
    let bodies : body ≡ other = comment_same body other (behind ++ r) (following ++ s) x y whole in
    let rests : behind ≡ following = append_cancel_left body behind following (gaps ∙ ap (λ w. w ++ following) (sym bodies)) in
    let others = comments_same t u rests f in
    (λ i. record { bytes = encode_utf8_all (bodies i); has_line_end = list_any is_line_terminator (bodies i) } ∷ others i)

-- two tokens that are read from one place on: the gap before both is the same, and what stands after it
pub record SameFront {g h : Goal} {at bt : ℕ} {cs ds ra rb : List ℕ} {a b : LexicalToken} (x : IsTokenAt g at cs a ra) (y : IsTokenAt h bt ds b rb) : Type 0 where
  pub gaps : x.gap ≡ y.gap
  pub words : x.word ++ ra ≡ y.word ++ rb
  pub start : a.start ≡ b.start
  pub comments : comments x.separated ≡ comments y.separated

pub same_front : {g h : Goal} {at bt : ℕ} {cs ds ra rb : List ℕ} {a b : LexicalToken} (x : IsTokenAt g at cs a ra) (y : IsTokenAt h bt ds b rb) → at ≡ bt → cs ≡ ds → SameFront x y
same_front {ra = ra} {rb = rb} {a = a} {b = b} x y p q =
    let e : x.gap ++ (x.word ++ ra) ≡ y.gap ++ (y.word ++ rb) = sym (append_assoc x.gap x.word ra) ∙ sym x.split ∙ q ∙ y.split ∙ append_assoc y.gap y.word rb in
    let gaps = gap_same x.gap y.gap (x.word ++ ra) (y.word ++ rb) x.separated y.separated e (token_solid a.class x.word ra x.longest x.no_comment) (token_solid b.class y.word rb y.longest y.no_comment) in
    let words : x.word ++ ra ≡ y.word ++ rb = append_cancel_left x.gap (x.word ++ ra) (y.word ++ rb) (e ∙ ap (λ w. w ++ (y.word ++ rb)) (sym gaps)) in
    record { gaps = gaps; words = words; start = x.start ∙ (λ i. p i + size (gaps i)) ∙ sym y.start; comments = comments_same x.separated y.separated gaps words }

-- one token is read at a place by the goal of a tree
one_token : (n : Tree) {at bt : ℕ} {cs ds ra rb : List ℕ} {a b : LexicalToken} → IsTokenAt (tree_goal n a.start) at cs a ra → IsTokenAt (tree_goal n b.start) bt ds b rb → a.start ≡ b.start → at ≡ bt → cs ≡ ds → (a ≡ b) × (ra ≡ rb)
one_token n {at} {bt} {cs} {ds} {ra} {rb} {a} {b} x y start p q =
    let by_goal : IsTokenAt (tree_goal n b.start) at cs a ra = subst (λ z. IsTokenAt (tree_goal n z) at cs a ra) start x in
    let by_place : IsTokenAt (tree_goal n b.start) bt cs a ra = subst (λ z. IsTokenAt (tree_goal n b.start) z cs a ra) p by_goal in
    determined (tree_goal n b.start) bt ds a b ra rb (subst (λ z. IsTokenAt (tree_goal n b.start) bt z a ra) q by_place) y

both : (c : Bool) → IsTrue c → IsTrue (not c) → ⊥
both true h k = false≢true k
both false h k = false≢true h

-- two readings of one text by one tree
pub same_readings : (n : Tree) {at bt : ℕ} {cs ds : List ℕ} {a b : List LexicalToken} (r : IsTreeReading n at cs a) (s : IsTreeReading n bt ds b) → at ≡ bt → cs ≡ ds → spaced_tokens r ≡ spaced_tokens s
same_readings n (last x e) (last y f) p q =
    let front = same_front x y p q in
    let same = (one_token n x y front.start p q).0 in
    (λ i. record { token = same i; gap = encode_utf8_all (front.gaps i); comments = front.comments i } ∷ [])
same_readings n (last {token = a} x e) (more {token = b} y f d) p q =
    absurd (both (is_end b.class) (subst (λ t. IsTrue (is_end t.class)) (one_token n x y (same_front x y p q).start p q).0 e) f)
same_readings n (more {token = a} x e c) (last {token = b} y f) p q =
    absurd (both (is_end b.class) f (subst (λ t. IsTrue (not (is_end t.class))) (one_token n x y (same_front x y p q).start p q).0 e))
same_readings n (more {token = a} x e c) (more {token = b} y f d) p q =
    let front = same_front x y p q in
    let same = one_token n x y front.start p q in
    let stop : a.stop ≡ b.stop = ap (λ (t : LexicalToken). t.stop) same.0 in
    let others = same_readings n c d stop same.1 in
    (λ i. record { token = same.0 i; gap = encode_utf8_all (front.gaps i); comments = front.comments i } ∷ others i)
