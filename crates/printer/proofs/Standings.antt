-- What is put in, one text behind the other.
use Rattle.std.proofs.Common.{◌≡◌, ◌≤◌, ℕ, ◌+◌, Bool, true, false, List, [], ◌++◌, length, take, Option, Some, Result, Ok, Err, refl, sym, ap, ◌∙◌, subst, append_assoc, append-nil, arith}
use Rattle.std.proofs.Math.Seq.{take-append-add}
use Rattle.std.proofs.lemmas.List.{take-append-le, length-append}
use Rattle.std.specs.Io.KnownBytes.{Appends}
use Rattle.std.proofs.KnownBytes.{Appends-nil, Appends-trans}
use Rattle.source_text.specs.Writing.{AppendsBeginning, WritesText}
use Rattle.source_text.specs.declared.sink.DeviceFault.{DeviceFault}
use Rattle.printer.specs.Standings.{Standing, StandsBy, Stands, Puts, Adds, of_writer, of_text}

pub puts_then : (a b c : Standing) (t u : List ℕ) → Puts a b t → Puts b c u → Puts a c (t ++ u)
puts_then a b c t u p q = λ before v h. subst (Stands before c) (append_assoc v t u) (q before (v ++ t) (p before v h))

-- Some text

pub adds_then : {a b c : Standing} → Adds a b → Adds b c → Adds a c
adds_then {a} {b} {c} p q = record { text = p.text ++ q.text; puts = puts_then a b c p.text q.text p.puts q.puts }

-- from and to what stands the same
pub adds_from : {a b c : Standing} → b ≡ a → Adds b c → Adds a c
adds_from {a} {b} {c} e p = subst (λ s. Adds s c) e p

pub adds_to : {a b c : Standing} → c ≡ b → Adds a b → Adds a c
adds_to {a} {b} {c} e p = subst (Adds a) (sym e) p

-- a longer text has the same beginnings
longer : (before taken : Option (List ℕ)) (v t : List ℕ) → AppendsBeginning before taken v → AppendsBeginning before taken (v ++ t)
longer before taken v t h =
    let e = length-append v t in
    let l = h.1 in
    (h.0, omega (arith, e, l), subst (Appends before taken) (sym (take-append-le h.0 v t l)) h.2)

-- after a failure all stays as it is
failed_stands : (before taken : Option (List ℕ)) (failed : Bool) (p q v t : List ℕ) → failed ≡ true → StandsBy before taken failed p v → StandsBy before taken failed q (v ++ t)
failed_stands before taken true p q v t e h = longer before taken v t h
failed_stands before taken false p q v t e h = absurd (cc)

pub failed_puts : (taken : Option (List ℕ)) (failed : Bool) (p q t : List ℕ) → failed ≡ true → Puts (of_writer taken failed p) (of_writer taken failed q) t
failed_puts taken failed p q t e = λ before v h. failed_stands before taken failed p q v t e h

-- Bytes that wait

waits : (before taken : Option (List ℕ)) (failed : Bool) (p v t : List ℕ) → StandsBy before taken failed p v → StandsBy before taken failed (p ++ t) (v ++ t)
waits before taken true p v t h = longer before taken v t h
waits before taken false p v t h = (h.0, h.1, ap (λ u. u ++ t) h.2 ∙ append_assoc h.0 p t)

-- Bytes that are written

past : (front p v : List ℕ) (n : ℕ) → v ≡ front ++ p → take (length front + n) v ≡ front ++ take n p
past front p v n e = ap (take (length front + n)) e ∙ take-append-add front p n

within : (front p v : List ℕ) (n : ℕ) → n ≤ length p → v ≡ front ++ p → length front + n ≤ length v
within front p v n l e = let u = ap length e in let w = length-append front p in omega (arith, u, w, l)

written_stands : (before a b : Option (List ℕ)) (failed : Bool) (p v : List ℕ) (r : Result (Unit {0}) DeviceFault) → WritesText p r a b failed → StandsBy before a false p v → StandsBy before b failed [] v
written_stands before a b true p v (Ok u) w h = absurd (cc)
written_stands before a b false p v (Ok u) w h = (v, subst (Appends before b) (sym h.2) (Appends-trans before a b h.0 p h.1 w.0), sym (append-nil v))
written_stands before a b false p v (Err e) w h = absurd (cc)
written_stands before a b true p v (Err e) w h =
    let n = w.0.0 in
    (length h.0 + n, within h.0 p v n w.0.1 h.2, subst (Appends before b) (sym (past h.0 p v n h.2)) (Appends-trans before a b h.0 (take n p) h.1 w.0.2))

-- what waited was written
pub flushed_puts : (a b : Option (List ℕ)) (was failed : Bool) (p : List ℕ) (r : Result (Unit {0}) DeviceFault) → was ≡ false → WritesText p r a b failed → Puts (of_writer a was p) (of_writer b failed []) []
flushed_puts a b was failed p r e w = λ before v h.
    subst (StandsBy before b failed []) (sym (append-nil v)) (written_stands before a b failed p v r w (subst (λ f. StandsBy before a f p v) e h))

-- where nothing waited
pub written_puts : (a b : Option (List ℕ)) (was failed : Bool) (t : List ℕ) (r : Result (Unit {0}) DeviceFault) → was ≡ false → WritesText t r a b failed → Puts (of_writer a was []) (of_writer b failed []) t
written_puts a b was failed t r e w = λ before v h.
    written_stands before a b failed t (v ++ t) r w (subst (λ f. StandsBy before a f t (v ++ t)) e (waits before a was [] v t h))

-- bytes that have no room are written at once, behind what waited
pub direct_puts : (s : Standing) (a b : Option (List ℕ)) (f g : Bool) (q u t : List ℕ) → q ≡ [] → u ≡ t → Puts s (of_writer a f []) [] → Puts (of_writer a f u) (of_writer b g []) [] → Puts s (of_writer b g q) t
direct_puts s a b f g q u t e same p w = λ before v h.
    let x = waits before a f [] v u (subst (StandsBy before a f []) (append-nil v) (p before v h)) in
    subst (λ r. StandsBy before b g r (v ++ t)) (sym e) (subst (λ r. StandsBy before b g [] (v ++ r)) same (subst (StandsBy before b g []) (append-nil (v ++ u)) (w before (v ++ u) x)))

-- A text in memory

pub grown_puts : (old new t : List ℕ) (was failed : Bool) → was ≡ false → failed ≡ false → new ≡ old ++ t → Puts (of_text old was) (of_text new failed) t
grown_puts old new t was failed e f g = written_puts (Some old) (Some new) was failed t (Ok tt) e (g, f)

pub refused_puts : (old new t : List ℕ) (was failed : Bool) → was ≡ false → failed ≡ true → new ≡ old → Puts (of_text old was) (of_text new failed) t
refused_puts old new t was failed e f g = written_puts (Some old) (Some new) was failed t (Err (record {})) e ((0, omega arith, g ∙ sym (append-nil old)), f)

-- The whole

starts : (taken : Option (List ℕ)) (failed : Bool) → failed ≡ false → StandsBy taken taken failed [] []
starts taken true e = absurd (cc)
starts taken false e = ([], Appends-nil taken, refl)

ends : (before taken : Option (List ℕ)) (failed : Bool) (t : List ℕ) → StandsBy before taken failed [] t → (failed ≡ false → Appends before taken t) × (failed ≡ true → AppendsBeginning before taken t)
ends before taken true t h = (λ e. absurd (cc), λ e. h)
ends before taken false t h = (λ e. subst (Appends before taken) (sym (h.2 ∙ append-nil h.0)) h.1, λ e. absurd (cc))

-- all was written, or a beginning
pub puts_all : (a b : Option (List ℕ)) (was failed : Bool) (t : List ℕ) → was ≡ false → Puts (of_writer a was []) (of_writer b failed []) t → (failed ≡ false → Appends a b t) × (failed ≡ true → AppendsBeginning a b t)
puts_all a b was failed t e p = ends a b failed t (p a [] (starts a was e))

-- all stands in the text
pub text_whole : (old new : List ℕ) (was failed : Bool) (t : List ℕ) → old ≡ [] → was ≡ false → failed ≡ false → Puts (of_text old was) (of_text new failed) t → new ≡ t
text_whole old new was failed t e f g p = (puts_all (Some old) (Some new) was failed t f p).0 g ∙ ap (λ u. u ++ t) e
