-- What is kept has the same comments, in order.
use Rattle.std.proofs.Common.{◌≡◌, Bool, List, [], ◌∷◌, ◌++◌, refl, sym, ap, ◌∙◌, append_assoc}
use Rattle.tree.specs.declared.kind.Pair.{Pair}
use Rattle.unwrapping.specs.Keeps.{Comment, SpacedToken, AreKept, all, kept, moved_before, moved_after, gone, put, called, ended}

abbrev pub comments_of : List SpacedToken → List Comment
comments_of [] = []
comments_of (s ∷ ss) = s.comments ++ comments_of ss

pub comments_stay : {P Q : List Pair} {updated alike : Bool} {p q : List Comment} {ss ts : List SpacedToken} → AreKept P Q updated alike p q ss ts → p ++ comments_of ss ≡ q ++ comments_of ts
comments_stay all = refl
comments_stay (kept {passed = p} {passed_again = q} {s = s} {t = t} {ss = ss} {ts = ts} same g e k) =
    sym (append_assoc p s.comments (comments_of ss)) ∙ (λ i. e i ++ comments_stay k i) ∙ append_assoc q t.comments (comments_of ts)
comments_stay (moved_before {passed = p} {passed_again = q} {moved = m} {s = s} {t = t} {ss = ss} {ts = ts} same h e k) =
    sym (append_assoc p s.comments (comments_of ss)) ∙ ap (λ x. (p ++ s.comments) ++ x) (comments_stay k) ∙ sym (append_assoc (p ++ s.comments) m (comments_of ts)) ∙ ap (λ x. x ++ comments_of ts) e
    ∙ append_assoc q t.comments (comments_of ts)
comments_stay (moved_after {passed = p} {passed_again = q} {moved = m} {s = s} {t = t} {ss = ss} {ts = ts} same h e k) =
    sym (append_assoc p s.comments (comments_of ss)) ∙ ap (λ x. x ++ comments_of ss) e ∙ append_assoc (q ++ t.comments) m (comments_of ss) ∙ ap (λ x. (q ++ t.comments) ++ x) (comments_stay k)
    ∙ append_assoc q t.comments (comments_of ts)
comments_stay (gone {passed = p} {s = s} {ss = ss} h k) = sym (append_assoc p s.comments (comments_of ss)) ∙ comments_stay k
comments_stay (put {passed_again = q} {t = t} {ts = ts} h k) = comments_stay k ∙ append_assoc q t.comments (comments_of ts)
comments_stay (called {passed_again = q} {t = t} {u = u} {ts = ts} h k) =
    comments_stay k ∙ append_assoc (q ++ t.comments) u.comments (comments_of ts) ∙ append_assoc q t.comments (u.comments ++ comments_of ts)
comments_stay (ended {passed_again = q} {t = t} {ts = ts} h k) = comments_stay k ∙ append_assoc q t.comments (comments_of ts)
