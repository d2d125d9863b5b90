-- An item that a callee answers or refuses, as one of the list that is given (ECMA-262 12.2, 12.15.5, 13.3, 14.6).
use Rattle.std.proofs.Common.{◌+◌, ◌≤◌, ◌≡◌, ℕ, Bool, true, false, not, List, Result, Ok, Err, refl, sym, ap, ◌∙◌, subst, arith}
use Rattle.std.specs.Prelude.{IfOk, ◌&&◌, ◌||◌, nat_le}
use Rattle.std.specs.Result.{IsErrAnd}
use Rattle.std.proofs.lemmas.Bool.{and_parts, false≢true}
use Rattle.std.proofs.lemmas.Bool.Decides.{nat_tests}
use Rattle.source_text.specs.declared.fault.Fault.{Fault}
use Rattle.token_cursor.specs.CursorState.{CursorState}
use Rattle.tree.specs.declared.kind.Pair.{Pair}
use Rattle.tree.specs.Tree.{Tree, Parts, none, part, gap, push, join, part_count, kind_of, height, parts_height}
use Rattle.language.specs.Covers.{Reading, as_expression, as_pattern}
use Rattle.language.specs.Vocabulary.{is_rest, is_target as is_simple}
use Rattle.language.specs.Token.{Token}
use Rattle.covers.specs.declared.list.ListItem.{ListItem}
use Rattle.covers.specs.declared.list.ListKind.{ListKind}
use Rattle.covers.specs.declared.list.ListKind.TheVariants as listed
use Rattle.covers.specs.declared.list.ListBuilder.{ListBuilder as ListOf}
use Rattle.covers.specs.declared.list.ListSummary.{ListSummary}
use Rattle.covers.specs.Lists.{takes, is_ended}
use Rattle.covers.specs.Refusals.{IsTaken}
use Rattle.covers.specs.Shapes.{is_target}
use Rattle.recursive_descent.specs.Complete.{ItemComplete, PropertyOrMemberComplete}
use Rattle.recursive_descent.specs.Soundness.{read_as, all_read_as}
use Rattle.recursive_descent.specs.SoundnessOfLists.{has_reading, item_fits, may_trail, is_chunked, case_count, defined}
use Rattle.recursive_descent.specs.Completeness.{Room, EndsWith}
use Rattle.recursive_descent.specs.CompletenessOfLists.{ItemGiven, ItemEnds, DefinitionEnds, ItemRead, is_left, is_lone, default_seen, is_last_rest, minds_rest}
use Rattle.parser_tables.specs.Items.{with_item}
use Rattle.recursive_descent.proofs.complete_expressions.Agreement.{agrees_on}
use Rattle.recursive_descent.proofs.sound_lists.OneMoreItem.{join_none, read_push}
use Rattle.recursive_descent.proofs.complete_lists.ItemFits.{plain_item, agrees_pushed, fits_at, takes_at, is_plainly}
use Rattle.token_cursor.specs.SourceText.{SourceText}
use Rattle.recursive_descent.specs.Spelled.{OfLanguage, AllOfLanguage}
use Rattle.recursive_descent.proofs.reading.LanguageTrees.{first_of_language}

-- how many parts there are with one more, and which the only one is
pub pushed_count : (ps : Parts) (n : Tree) → part_count (push ps n) ≡ part_count ps + 1
pushed_count none n = refl
pushed_count (part k ps) n = ap (λ x. x + 1) (pushed_count ps n)
pushed_count (gap ps) n = ap (λ x. x + 1) (pushed_count ps n)

lone_tree : (ps : Parts) (n m : Tree) → push ps n ≡ part m none → m ≡ n
lone_tree none n m h = sym (first h)
  where
    first : part n none ≡ part m none → n ≡ m
    first e = cc
lone_tree (part k none) n m h = cc
lone_tree (part k (part j ps)) n m h = cc
lone_tree (part k (gap ps)) n m h = cc
lone_tree (gap ps) n m h = cc

-- what an item must be, that is one of the list
pub record Fitting (l : ListOf) (it : ListItem) (a : Reading) (n : Tree) : Type 0 where
  pub fits : item_fits l.listed it a ≡ true
  pub tree : read_as a it.node ≡ n
  pub trails : is_last_rest l.listed a (part n none) ≡ false → minds_rest l.listed a ≡ true → it.spreads ≡ false
  pub plain : is_plainly l.listed ≡ true → it.shape.is_expression ≡ true
  pub once : (r : Bool) → l.listed ≡ listed.Cases r → (l.seen.is_flagged && it.is_flagged) ≡ false
  pub counted : nat_le (default_seen l.listed (l.seen.is_flagged || it.is_flagged)) (case_count l.listed (part n none) + default_seen l.listed l.seen.is_flagged) ≡ true
  pub target : l.listed ≡ listed.ParenthesizedItems → a ≡ as_expression → (it.shape.is_expression ≡ true) × (is_simple (kind_of it.node) ≡ true → is_target it.shape.assigned ≡ true)

-- a list to which an item may be added is no getter's
not_ended : (x : ListKind) (s : ListSummary) (n : ℕ) → is_ended x s n ≡ false → x ≡ listed.NoParameter → ⊥
not_ended x s n h e = absurd (false≢true (sym h ∙ ap (λ y. is_ended y s n) e))

-- such an item, with how it ends
pub record Taken (s e : CursorState) (old new : List Pair) (l : ListOf) (it : ListItem) (a : Reading) (last : Bool) (one : Parts) (to : Token) (P : List Pair) : Type 0 where
  pub tree : Tree
  pub parts : one ≡ part tree none
  pub unmarked : last ≡ false
  pub fitting : Fitting l it a tree
  pub ends : EndsWith s e old new to P

-- what the list has with it
pub fitting_read : (l : ListOf) (it : ListItem) (a : Reading) (n : Tree) → is_chunked l.listed ≡ false → is_ended l.listed l.seen (part_count l.nodes) ≡ false → is_left l a ≡ true → is_lone l.listed a (part_count l.nodes + 1) ≡ true → Fitting l it a n → ItemRead a l (with_item l it) false (part n none)
fitting_read l it a n plain some left lone f = record {
  left = fits_at l.listed l it a plain (not_ended l.listed l.seen (part_count l.nodes) some) left f.fits f.plain (ap (is_lone l.listed a) (pushed_count l.nodes it.node) ∙ lone);
  nodes = sym (join_none (all_read_as a (push l.nodes it.node))) ∙ sym (read_push a l.nodes it.node none) ∙ ap (λ m. join (all_read_as a l.nodes) (part m none)) f.tree;
  no_rest = f.trails;
  marked = λ h. absurd (false≢true (sym plain ∙ h));
  counted = f.counted;
  lone = λ p q. record {
    value = λ m h. (f.target p q).0;
    target = λ m h t. (f.target p q).1 (ap (λ x. is_simple (kind_of x)) (sym (lone_tree l.nodes it.node m h)) ∙ t);
  };
  no_comma = λ p. refl;
}

-- such an item is taken
pub item_taken : (s e : CursorState) (old new : List Pair) (l k : ListOf) (high : ℕ) (it : ListItem) (at : ℕ) (answer : Result (Unit {0}) Fault) → is_chunked l.listed ≡ false → IfOk answer (λ u. k ≡ with_item l it) → IsTaken (takes l.listed l.seen it) at answer →
    ((a : Reading) (o : ℕ) (last : Bool) (one : Parts) (to : Token) (P : List Pair) → is_ended l.listed l.seen (part_count l.nodes) ≡ false → has_reading l.listed a ≡ true → nat_le (case_count l.listed one + default_seen l.listed l.seen.is_flagged) 1 ≡ true → ItemGiven s.text l.listed a o s.last to P last one → AllOfLanguage s.text one → Taken s e old new l it a last one to P) →
    ItemComplete s e old new high l k answer
item_taken s e old new l k high it at answer plain put taken make = λ a o last one to P some left lone once g own.
    let reads : has_reading l.listed a ≡ true = (and_parts _ _ (and_parts _ _ left).0).0 in
    let v = make a o last one to P some reads once g own in
    let alone : is_lone l.listed a (part_count l.nodes + 1) ≡ true = ap (λ x. is_lone l.listed a (part_count l.nodes + part_count x)) (sym v.parts) ∙ lone in
    let read : ItemRead a l (with_item l it) false (part v.tree none) = fitting_read l it a v.tree plain some left alone v.fitting in
    let took : takes l.listed l.seen it ≡ true = takes_at l.listed l it a reads v.fitting.fits read.left v.fitting.once in
    let whole : ItemRead a l (with_item l it) last one = subst (λ x. ItemRead a l (with_item l it) last x) (sym v.parts) (subst (λ x. ItemRead a l (with_item l it) x (part v.tree none)) (sym v.unmarked) read) in
    agrees_pushed (Room s o (parts_height one) high) (λ z. ItemRead a l z last one × EndsWith s e old new to P) k (with_item l it) (takes l.listed l.seen it) at answer put taken took (whole, v.ends)

-- as high as the one part
pub one_high : (n : Tree) {one : Parts} {high : ℕ} → one ≡ part n none → parts_height one ≤ high → height n ≤ high
one_high n {one} {high} is h = let u : parts_height (part n none) ≤ high = subst (λ x. parts_height x ≤ high) is h in omega arith

-- it is of the language
pub own_tree : {text : SourceText} (n : Tree) {one : Parts} → one ≡ part n none → AllOfLanguage text one → OfLanguage text n
own_tree {text} n is own = first_of_language {text = text} {n = n} {ps = none} (subst (λ x. AllOfLanguage text x) is own)

-- members and properties are neither parts of a template nor elements, and end so
defined_plain : (c : Bool) → is_chunked (defined c) ≡ false
defined_plain true = refl
defined_plain false = refl

no_elements : {X : Type 0} (c : Bool) → defined c ≡ listed.Elements → X
no_elements true h = cc
no_elements false h = cc

defined_ends : (text : SourceText) (c : Bool) (n : Tree) (e : Token) → ItemEnds text (defined c) n e → DefinitionEnds text c e
defined_ends text true n e h = h
defined_ends text false n e h = h

-- a reading that is left is one of the list
pub left_reads : (l : ListOf) (a : Reading) → is_left l a ≡ true → has_reading l.listed a ≡ true
left_reads l a h = (and_parts _ _ (and_parts _ _ h).0).0

pub definition_refused : (s e : CursorState) (old new : List Pair) (l k : ListOf) (high : ℕ) (c : Bool) (answer : Result (Unit {0}) Fault) (fault : Fault) → l.listed ≡ defined c → IsErrAnd answer (λ x. x ≡ fault) → PropertyOrMemberComplete s e old new high c (Err fault) → ItemComplete s e old new high l k answer
definition_refused s e old new l k high c answer fault is err h = λ a o last one to P some left lone once g own.
    let v = plain_item (defined_plain c) (λ q. no_elements c q) (subst (λ x. ItemGiven s.text x a o s.last to P last one) is g) in
    agrees_on (Room s o (height v.tree) high) (Room s o (parts_height one) high) (λ u. ItemRead a l k last one × EndsWith s e old new to P) answer fault err
    (h a o v.role v.tree to P (ap (λ x. has_reading x a) (sym is) ∙ left_reads l a left) v.it_is v.spelled (defined_ends s.text c v.tree to v.ends) (own_tree v.tree v.parts own)) (λ room. (room.0, one_high v.tree v.parts room.1))

-- one that is read
definition_trails : (c : Bool) (a : Reading) (it : ListItem) (n : Tree) → (is_rest (kind_of n) ≡ false → may_trail it a ≡ true) → is_last_rest (defined c) a (part n none) ≡ false → minds_rest (defined c) a ≡ true → it.spreads ≡ false
definition_trails true as_expression it n f h m = cc
definition_trails false as_expression it n f h m = cc
definition_trails true (as_pattern b) it n f h m = of it.spreads (f h)
  where
    of : (c : Bool) → not c ≡ true → c ≡ false
    of true q = absurd (false≢true q)
    of false q = refl
definition_trails false (as_pattern b) it n f h m = of it.spreads (f h)
  where
    of : (c : Bool) → not c ≡ true → c ≡ false
    of true q = absurd (false≢true q)
    of false q = refl

defined_counts : (c : Bool) (x : ℕ) (b d : Bool) → nat_le (default_seen (defined c) b) (x + default_seen (defined c) d) ≡ true
defined_counts true x b d = grind (arith, nat_tests)
defined_counts false x b d = grind (arith, nat_tests)

pub definition_taken : (s e : CursorState) (old new : List Pair) (l k : ListOf) (high : ℕ) (c : Bool) (it : ListItem) (at : ℕ) (answer : Result (Unit {0}) Fault) → l.listed ≡ defined c → IfOk answer (λ u. k ≡ with_item l it) → IsTaken (takes l.listed l.seen it) at answer → PropertyOrMemberComplete s e old new high c (Ok it) → ItemComplete s e old new high l k answer
definition_taken s e old new l k high c it at answer is put taken h = item_taken s e old new l k high it at answer (ap is_chunked is ∙ defined_plain c) put taken (λ a o last one to P some reads once g own.
    let v = plain_item (defined_plain c) (λ q. no_elements c q) (subst (λ x. ItemGiven s.text x a o s.last to P last one) is g) in
    let u = h a o v.role v.tree to P (ap (λ x. has_reading x a) (sym is) ∙ reads) v.it_is v.spelled (defined_ends s.text c v.tree to v.ends) (own_tree v.tree v.parts own) in
    record {
      tree = v.tree;
      parts = v.parts;
      unmarked = v.unmarked;
      fitting = record {
        fits = ap (λ x. item_fits x it a) is ∙ u.0;
        tree = u.1;
        trails = λ q m. definition_trails c a it v.tree u.2 (ap (λ x. is_last_rest x a (part v.tree none)) (sym is) ∙ q) (ap (λ x. minds_rest x a) (sym is) ∙ m);
        plain = λ q. absurd (never_plain c (ap is_plainly (sym is) ∙ q));
        once = λ r q. never_cases c (sym is ∙ q);
        counted = ap (λ x. nat_le (default_seen x (l.seen.is_flagged || it.is_flagged)) (case_count x (part v.tree none) + default_seen x l.seen.is_flagged)) is ∙ defined_counts c (case_count (defined c) (part v.tree none)) (l.seen.is_flagged || it.is_flagged) l.seen.is_flagged;
        target = λ p q. never_covers c (sym is ∙ p);
      };
      ends = u.3;
    })
  where
    never_plain : (c : Bool) → is_plainly (defined c) ≡ true → ⊥
    never_plain true h = absurd (false≢true h)
    never_plain false h = absurd (false≢true h)

    never_cases : {X : Type 0} (c : Bool) {r : Bool} → defined c ≡ listed.Cases r → X
    never_cases true h = cc
    never_cases false h = cc

    never_covers : {X : Type 0} (c : Bool) → defined c ≡ listed.ParenthesizedItems → X
    never_covers true h = cc
    never_covers false h = cc
