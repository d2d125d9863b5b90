-- What the code makes of a list between brackets is what is given (ECMA-262 12.2.5, 12.2.6).
use Rattle.std.proofs.Common.{◌≡◌, ℕ, suc, ◌≤◌, ◌-◌, Bool, true, false, List, [], ◌++◌, refl, sym, ap, ◌∙◌, subst, arith}
use Rattle.std.specs.Prelude.{Some}
use Rattle.std.proofs.lemmas.Bool.{false≢true, and_parts}
use Rattle.source_text.specs.declared.fault.Fault.{Fault}
use Rattle.source_text.specs.declared.fault.Fault.TheVariants.{Syntax, TooDeep, OutOfMemory}
use Rattle.tokens.specs.Tokens.{LexicalToken}
use Rattle.tokens.specs.declared.token.TokenClass.TheVariants.{Punctuator}
use Rattle.tokens.specs.declared.token.Goal.TheVariants.{RegExp}
use Rattle.token_cursor.specs.CursorState.{CursorState, IsAhead}
use Rattle.tree.specs.declared.kind.Kind.{Kind}
use Rattle.tree.specs.declared.kind.Pair.{Pair}
use Rattle.tree.specs.Tree.{Tree, node, Parts, none, kind_of, height, parts_height, plain, join}
use Rattle.covers.specs.declared.shape.CoverShape.{CoverShape}
use Rattle.covers.specs.declared.shape.TargetForm.{TargetForm}
use Rattle.covers.specs.declared.shape.TargetForm.TheVariants as assigned
use Rattle.covers.specs.Shapes.{is_element, is_pattern as is_listed}
use Rattle.covers.specs.declared.list.ListKind.{ListKind}
use Rattle.covers.specs.declared.list.ListKind.TheVariants as listed
use Rattle.covers.specs.declared.list.ListBuilder.{ListBuilder as ListOf}
use Rattle.covers.specs.Lists.{opening}
use Rattle.language.specs.declared.Rank.{Rank}
use Rattle.language.specs.declared.Start.{Start}
use Rattle.language.specs.declared.Start.TheVariants.{Any}
use Rattle.language.specs.Covers.{Reading, as_expression, as_pattern}
use Rattle.language.specs.ExpressionStart.{ExpressionStart, with_bracket, with_brace, with_template, expression_start}
use Rattle.language.specs.Token.{Token, as_read}
use Rattle.language.specs.Vocabulary.{is_target as is_simple}
use Rattle.language.specs.Claims.{max_open}
use Rattle.parser_tables.specs.declared.expression_context.ExpressionContext.{ExpressionContext}
use Rattle.parser_tables.specs.declared.expression_starts.ExpressionStart.TheVariants as code
use Rattle.recursive_descent.specs.Soundness.{RunsIn, anywhere, Adds, read_as, all_read_as, fits_as}
use Rattle.recursive_descent.specs.SoundnessOfLists.{ListAt, SoFarAt, SeenRight, is_whole, whole_of, item_pieces, is_list_shape}
use Rattle.recursive_descent.specs.Follows.{BegunAt, NotBegun}
use Rattle.recursive_descent.specs.Completeness.{FirstAs, IsFirst}
use Rattle.recursive_descent.specs.CompletenessOfLists.{ListGiven}
use Rattle.parser_tables.specs.Items.{list_from, listed_kind, listed_shape, listed_part}
use Rattle.parser_tables.specs.ExpressionStarts.{coded_start}
use Rattle.token_cursor.specs.Seen.{ReadsHere}
use Rattle.recursive_descent.proofs.complete_expressions.Agreement.{Refuses, marks_same, not_missed}
use Rattle.recursive_descent.proofs.reading.Forward.{place_mark}
use Rattle.recursive_descent.proofs.complete_lists.BracketsGiven.{BracketsGiven, bracket_kind, left_sign, right_sign, array_given, object_given}
use Rattle.token_cursor.proofs.TokensAhead.{ahead_read}
use Rattle.token_cursor.specs.SourceText.{SourceText}
use Rattle.recursive_descent.specs.Spelled.{OfLanguage, AllOfLanguage}
use Rattle.recursive_descent.proofs.reading.LanguageTrees.{parts_of_language}

-- a list between brackets, by its opening
pub data Bracketed : ListKind → ExpressionStart → Type 0 where
  an_array : Bracketed listed.Elements with_bracket
  an_object : Bracketed listed.Properties with_brace

opening_is : {what : ListKind} {x : ExpressionStart} → Bracketed what x → opening what ≡ Some (left_sign what)
opening_is an_array = refl
opening_is an_object = refl

pub brackets_given : {text : SourceText} {p : ExpressionContext} {o : ℕ} {n : Tree} {s to : Token} {Q : List Pair} {a : Reading} {h : Rank} {what : ListKind} {z : ExpressionStart} (u : LexicalToken) → Bracketed what z → IsAhead RegExp text s.stop u → expression_start (as_read u) ≡ z → FirstAs text p o n s to Q a h → BracketsGiven text o what a h n s to Q
brackets_given {text} {s = s} u an_array ahead opens g = array_given text (ahead_read text RegExp s u ahead) opens g
brackets_given {text} {s = s} u an_object ahead opens g = object_given text (ahead_read text RegExp s u ahead) opens g

begun_list : {what : ListKind} {z : ExpressionStart} (a : Reading) (text : SourceText) (at o : ℕ) (ps : Parts) (s mid to : Token) (P : List Pair) → Bracketed what z → RunsIn text o (anywhere (item_pieces what a ps)) ps s mid P → ReadsHere text Punctuator (right_sign what) mid to → ListGiven text (list_from what at) a o ps s to P
begun_list as_expression text at o ps s mid to P an_array runs right = record { left = refl; mid = mid; runs = runs; closes = right; last = tt; no_rest = refl; lone = refl; one_default = refl }
begun_list (as_pattern true) text at o ps s mid to P an_array runs right = record { left = refl; mid = mid; runs = runs; closes = right; last = tt; no_rest = refl; lone = refl; one_default = refl }
begun_list (as_pattern false) text at o ps s mid to P an_array runs right = record { left = refl; mid = mid; runs = runs; closes = right; last = tt; no_rest = refl; lone = refl; one_default = refl }
begun_list as_expression text at o ps s mid to P an_object runs right = record { left = refl; mid = mid; runs = runs; closes = right; last = tt; no_rest = refl; lone = refl; one_default = refl }
begun_list (as_pattern true) text at o ps s mid to P an_object runs right = record { left = refl; mid = mid; runs = runs; closes = right; last = tt; no_rest = refl; lone = refl; one_default = refl }
begun_list (as_pattern false) text at o ps s mid to P an_object runs right = record { left = refl; mid = mid; runs = runs; closes = right; last = tt; no_rest = refl; lone = refl; one_default = refl }

-- the list that was begun, from behind its sign on
module _ (s m : CursorState) {what : ListKind} {z : ExpressionStart} (l : ListOf) (text : m.text ≡ s.text) (by : Bracketed what z) (is : l.listed ≡ what) (begun : BegunAt s m l) where
  pub sign_read : ReadsHere s.text Punctuator (left_sign what) s.last m.last
  sign_read = (begun.1 (left_sign what) (ap opening is ∙ opening_is by)).0

  pub list_is : l ≡ list_from what l.span.start
  list_is = (begun.1 (left_sign what) (ap opening is ∙ opening_is by)).1 ∙ ap (λ x. list_from x l.span.start) is

  pub rest_given : {o : ℕ} {n : Tree} {to : Token} {Q : List Pair} {a : Reading} {h : Rank} → (v : BracketsGiven s.text o what a h n s.last to Q) → ListGiven m.text l a o v.parts m.last to Q
  rest_given {o} {n} {to} {Q} {a} v =
      let at : v.first ≡ m.last = (marks_same s.text v.left sign_read).1 in
      subst (λ x. ListGiven m.text x a o v.parts m.last to Q) (sym list_is) (subst (λ x. ListGiven x (list_from what l.span.start) a o v.parts m.last to Q) (sym text)
      (begun_list a s.text l.span.start o v.parts m.last v.mid to Q by (subst (λ x. RunsIn s.text o (anywhere (item_pieces what a v.parts)) v.parts x v.mid Q) at v.runs) v.right))

  nothing_read : (a : Reading) → all_read_as a l.nodes ≡ none
  nothing_read as_expression = ap (λ (x : ListOf). x.nodes) list_is
  nothing_read (as_pattern b) = ap (λ (x : ListOf). all_read_as (as_pattern b) x.nodes) list_is

  so_far : (o : ℕ) → SoFarAt m.text Any l o m.last m.last []
  so_far o = subst (λ x. SoFarAt m.text Any x o m.last m.last []) (sym list_is) (of by)
    where
      of : {w : ListKind} {x : ExpressionStart} → Bracketed w x → SoFarAt m.text Any (list_from w l.span.start) o m.last m.last []
      of an_array as_expression fits = λ ps e Q d. d
      of an_array (as_pattern b) fits = λ ps e Q d. d
      of an_object as_expression fits = λ ps e Q d. d
      of an_object (as_pattern b) fits = λ ps e Q d. d

  seen_right : SeenRight l
  seen_right = subst SeenRight (sym list_is) (of by)
    where
      of : {w : ListKind} {x : ExpressionStart} → Bracketed w x → SeenRight (list_from w l.span.start)
      of an_array = record { together = refl; target = λ n is h v t. cc; one_default = refl }
      of an_object = record { together = refl; target = λ n is h v t. cc; one_default = refl }

-- a pattern, or nothing
listed_pattern : (b : Bool) (x : CoverShape) → is_list_shape x.assigned ≡ true → fits_as x (as_pattern b) ≡ true → is_listed x.assigned ≡ true
listed_pattern b x right fits = of x.assigned right (element b x fits)
  where
    element : (b : Bool) (x : CoverShape) → fits_as x (as_pattern b) ≡ true → is_element x.assigned ≡ true
    element false x h = h
    element true x h = (and_parts _ _ h).1

    of : (a : TargetForm) → is_list_shape a ≡ true → is_element a ≡ true → is_listed a ≡ true
    of assigned.Nothing h k = cc
    of assigned.Pattern h k = refl
    of assigned.Target h k = cc
    of assigned.Defaulted h k = cc

-- the node of the list in each reading
node_read : {what : ListKind} {z : ExpressionStart} (a : Reading) (st en : ℕ) (ps : Parts) → Bracketed what z → (k : Kind) → k ≡ listed_kind what → read_as a (node k [] plain st en ps) ≡ node (bracket_kind what a) [] plain st en (all_read_as a ps)
node_read as_expression st en ps an_array k e = ap (λ c. node c [] plain st en ps) e
node_read (as_pattern b) st en ps an_array k e = ap (λ c. read_as (as_pattern b) (node c [] plain st en ps)) e
node_read as_expression st en ps an_object k e = ap (λ c. node c [] plain st en ps) e
node_read (as_pattern b) st en ps an_object k e = ap (λ c. read_as (as_pattern b) (node c [] plain st en ps)) e

fits_whole : {what : ListKind} {z : ExpressionStart} (a : Reading) (l : ListOf) → Bracketed what z → whole_of what l a ≡ true → fits_as (listed_shape what l.seen.shape) a ≡ true
fits_whole as_expression l an_array h = (and_parts l.seen.shape.is_expression true h).0
fits_whole (as_pattern b) l an_array h = (and_parts (fits_as l.seen.shape (as_pattern b)) true h).0
fits_whole as_expression l an_object h = (and_parts l.seen.shape.is_expression true h).0
fits_whole (as_pattern b) l an_object h = (and_parts (fits_as l.seen.shape (as_pattern b)) true h).0

not_simple : {what : ListKind} {z : ExpressionStart} (a : Reading) → Bracketed what z → is_simple (bracket_kind what a) ≡ false
not_simple as_expression an_array = refl
not_simple (as_pattern b) an_array = refl
not_simple as_expression an_object = refl
not_simple (as_pattern b) an_object = refl

shape_same : {what : ListKind} {z : ExpressionStart} (l : ListOf) → Bracketed what z → listed_shape what l.seen.shape ≡ l.seen.shape
shape_same l an_array = refl
shape_same l an_object = refl

-- the whole list is what is given
pub list_first : {text : SourceText} {o : ℕ} {what : ListKind} {z : ExpressionStart} {a : Reading} {h : Rank} {n : Tree} {s to : Token} {Q : List Pair} (v : BracketsGiven text o what a h n s to Q) (l : ListOf) → Bracketed what z → l.listed ≡ what → is_whole l a ≡ true → all_read_as a l.nodes ≡ v.parts → l.span.start ≡ v.first.start → l.span.end ≡ to.stop →
    is_list_shape l.seen.shape.assigned ≡ true → IsFirst a h (listed_part l) n
list_first {what = what} {a = a} {h = h} {n = n} {to = to} v l by is whole nodes from end right =
    let fits = fits_whole a l by (subst (λ x. whole_of x l a ≡ true) is whole) in
    let shape : listed_shape l.listed l.seen.shape ≡ l.seen.shape = ap (λ x. listed_shape x l.seen.shape) is ∙ shape_same l by in
    let fits_it : fits_as l.seen.shape a ≡ true = subst (λ x. fits_as x a ≡ true) (shape_same l by) fits in
    record {
      read = record {
        fits = subst (λ x. fits_as x a ≡ true) (sym shape) fits_it;
        tree = node_read a l.span.start l.span.end l.nodes by (listed_kind l.listed) (ap listed_kind is) ∙ (λ i. node (bracket_kind what a) [] plain (from i) (end i) (nodes i)) ∙ sym v.tree;
        target = λ k. absurd (false≢true (sym (not_simple a by) ∙ sym (ap (λ c. is_simple (kind_of c)) v.tree) ∙ k));
        pattern = λ b e k. subst (λ x. is_listed x.assigned ≡ true) (sym shape) (listed_pattern b l.seen.shape right (subst (λ x. fits_as l.seen.shape x ≡ true) e fits_it));
      };
      taken = v.taken;
      alone = λ b e. refl;
    }

-- What is given of a list that was begun, and that what the code makes of it all is what is given.
pub record ListRest (s m : CursorState) (l : ListOf) (a : Reading) (o : ℕ) (h : Rank) (n : Tree) (to : Token) (Q : List Pair) : Type 0 where
  pub ps : Parts
  pub given : ListGiven m.text l a o ps m.last to Q
  pub own : OfLanguage s.text n → AllOfLanguage m.text ps
  pub low : suc (parts_height ps) ≤ height n
  pub start_low : suc (parts_height l.nodes) ≤ height n
  pub first : (e : CursorState) (old new : List Pair) (whole : ListOf) → Adds m e old new (λ o' x y R. (f : Start) (z : Token) (P : List Pair) → SoFarAt m.text f l o' z x P → ListAt m.text f whole o' z y (P ++ R)) → (SeenRight l → SeenRight whole) → (whole.listed ≡ l.listed) × (whole.span.start ≡ l.span.start) →
      is_whole whole a ≡ true → all_read_as a whole.nodes ≡ join (all_read_as a l.nodes) ps → e.last ≡ to → IsFirst a h (listed_part whole) n

pub brackets_rest : (s m : CursorState) {what : ListKind} {z : ExpressionStart} (l : ListOf) (text : m.text ≡ s.text) (by : Bracketed what z) (is : l.listed ≡ what) (begun : BegunAt s m l) {o : ℕ} {n : Tree} {to : Token} {Q : List Pair} {a : Reading} {h : Rank} → BracketsGiven s.text o what a h n s.last to Q → ListRest s m l a o h n to Q
brackets_rest s m {what} {z} l text by is begun {o} {n} {to} {Q} {a} {h} v =
    let high : height n ≡ suc (parts_height v.parts) = ap height v.tree in
    let empty : parts_height l.nodes ≡ 0 = ap (λ (x : ListOf). parts_height x.nodes) (list_is s m l text by is begun) in
    record {
      ps = v.parts;
      given = rest_given s m l text by is begun v;
      own = λ whole. subst (λ x. AllOfLanguage x v.parts) (sym text) (parts_of_language {text = s.text} {k = bracket_kind what a} {w = []} {g = plain} {st = v.first.start} {en = to.stop} (subst (λ x. OfLanguage s.text x) v.tree whole));
      low = omega arith;
      start_low = omega arith;
      first = λ e old new whole d seen same whole_is nodes place.
          list_first v whole by (same.0 ∙ is) whole_is (nodes ∙ ap (λ x. join x v.parts) (nothing_read s m l text by is begun a)) (same.1 ∙ place_mark s begun.0 (sign_read s m l text by is begun) ∙ ap (λ (x : Token). x.start) (sym (marks_same s.text v.left (sign_read s m l text by is begun)).0))
          ((d.is Any m.last [] (so_far s m l text by is begun (max_open - m.opened))).ends ∙ ap (λ (x : Token). x.stop) place) (seen (seen_right s m l text by is begun)).together;
    }

-- what begins as a list in the code
pub data ListCase : ListKind → ExpressionStart → Type 0 where
  in_brackets : {what : ListKind} {z : ExpressionStart} → Bracketed what z → ListCase what z
  in_quotes : ListCase listed.Template with_template

pub list_case : (x : ExpressionStart) (what : ListKind) → coded_start x ≡ Some (code.List what) → ListCase what x
list_case with_bracket what h = let e : listed.Elements ≡ what = cc in subst (λ w. ListCase w with_bracket) e (in_brackets an_array)
list_case with_brace what h = let e : listed.Properties ≡ what = cc in subst (λ w. ListCase w with_brace) e (in_brackets an_object)
list_case with_template what h = let e : listed.Template ≡ what = cc in subst (λ w. ListCase w with_template) e in_quotes
list_case _ what h = cc

-- a sign that is given is not missed
pub begun_refuses : (W : Type 0) {what : ListKind} {z : ExpressionStart} (s : CursorState) (high : ℕ) (fault : Fault) {x : Token} → Bracketed what z → NotBegun what s high fault → ReadsHere s.text Punctuator (left_sign what) s.last x → Refuses W fault
begun_refuses W s high (Syntax at) {x} by h left = absurd (not_missed (h _ (opening_is by)) left)
begun_refuses W s high TooDeep an_array h left = let z = h.0 in cc
begun_refuses W s high TooDeep an_object h left = let z = h.0 in cc
begun_refuses W s high OutOfMemory by h left = tt
begun_refuses W s high _ by h left = absurd h
