-- What touches what in a spelling: a test of pieces, from left to right, and that lists of parts pass it.
use Rattle.std.proofs.Common.{◌≡◌, ℕ, Bool, true, false, cond, not, ◌&&◌, ◌||◌, nat_eq, List, [], ◌∷◌, refl, ap}
use Rattle.std.specs.Prelude.{nat_le, slice_index_or, codes}
use Rattle.std.proofs.lemmas.Bool.{and_from, false≢true}
use Rattle.tokens.specs.declared.token.TokenClass.{TokenClass}
use Rattle.tokens.specs.declared.token.TokenClass.TheVariants.{IdentifierName, Punctuator, Template}
use Rattle.tokens.specs.Lexical.{is_one_of_words}
use Rattle.language.specs.declared.Rank.{Rank}
use Rattle.language.specs.Vocabulary.{precedence}
use Rattle.language.specs.Pieces.{Role, expr, chain_part, name, word, private_name, key, shorthand_key, base, tagged_quasi, template_element, pattern, method, body, block, class_body, script, Slot, fixed, left, lead, tail, callee, lead_chain, lead_pattern, Piece, PieceOf, tok, may, many, ahead, unbroken, ending, open_parameters, close_parameters, sub, absent, never, lay, space, line, feed, deeper, shallower, apart, loose, no_operand}
use Rattle.language.proofs.layout.PunctuatorsApart.{closed_signs}
use Rattle.language.proofs.layout.WordsApart.{is_closer, is_sign_closer}

-- what stands before, without a space
pub data Touch : Type 0 where
  -- nothing of this node; a space; a line break
  fresh apart_from broken : Touch
  -- what nothing goes on from; a name; an expression that may end in a number; a part that ends in none; any other part
  solid named valued closed stated : Touch
  -- `.` or `?.`; `*`; another sign
  dotted starred signed : Touch
  -- a shorthand key
  echoed : Touch

-- what a part begins with and ends in, as far as its position tells
pub data Sort : Type 0 where
  -- an expression; one at LeftHandSide or tighter; a name; what ends in a bracket or a name
  an_operand a_tight a_name an_ended : Sort
  -- a template behind a tag, a method's function, a template's part, a key, a shorthand key, a script, anything else
  a_quasi a_method a_chunk a_key an_echo a_script another : Sort

abbrev pub sort_of : Role → Sort
sort_of (expr y i f) = cond (nat_le 18 (precedence y)) a_tight an_operand
sort_of (chain_part f) = an_ended
sort_of name = a_name
sort_of word = a_name
sort_of private_name = a_name
sort_of key = a_key
sort_of base = a_name
sort_of tagged_quasi = a_quasi
sort_of (method x) = a_method
sort_of (template_element a b) = a_chunk
sort_of shorthand_key = an_echo
sort_of script = a_script
sort_of (pattern b f) = an_ended
sort_of body = an_ended
sort_of class_body = an_ended
sort_of (block r) = an_ended
sort_of _ = another

abbrev pub rank_sort : Rank → Sort
rank_sort y = cond (nat_le 18 (precedence y)) a_tight an_operand

abbrev pub slot_sort : Slot → Sort
slot_sort (fixed a) = sort_of a
slot_sort (left y) = rank_sort y
slot_sort (lead y) = rank_sort y
slot_sort (tail y x) = rank_sort y
slot_sort callee = a_tight
slot_sort lead_chain = an_ended
slot_sort lead_pattern = an_ended

-- a part of this sort may touch what stands before
abbrev pub takes_part : Touch → Sort → Bool
takes_part fresh x = true
takes_part apart_from x = true
takes_part broken x = true
takes_part solid x = true
takes_part signed an_operand = true
takes_part signed a_tight = true
takes_part signed x = false
takes_part dotted a_name = true
takes_part dotted x = false
takes_part starred a_name = true
takes_part starred a_key = true
takes_part starred x = false
takes_part echoed a_name = true
takes_part echoed another = true
takes_part echoed x = false
takes_part s a_quasi = true
takes_part s a_method = true
takes_part s a_chunk = true
takes_part s x = false

-- b says that a first part may be a number that `.` would join
abbrev pub behind_part : Bool → Sort → Touch
behind_part b an_operand = valued
behind_part b a_tight = cond b valued closed
behind_part b a_name = named
behind_part b an_ended = closed
behind_part b a_quasi = closed
behind_part b a_method = closed
behind_part b a_chunk = solid
behind_part b a_key = stated
behind_part b an_echo = echoed
behind_part b a_script = stated
behind_part b another = stated

abbrev pub first_code : List ℕ → ℕ
first_code w = slice_index_or w 0 0

abbrev pub takes_sign : Touch → List ℕ → Bool
takes_sign fresh w = true
takes_sign apart_from w = true
takes_sign broken w = true
takes_sign solid w = true
takes_sign named w = is_closer (first_code w) || is_sign_closer (first_code w)
takes_sign closed w = is_closer (first_code w) || is_sign_closer (first_code w)
takes_sign valued w = is_closer (first_code w)
takes_sign stated w = is_closer (first_code w)
takes_sign dotted w = is_one_of_words ("[" ∷ "(" ∷ []) w
takes_sign starred w = is_one_of_words ("[" ∷ []) w
takes_sign _ w = false

abbrev pub behind_sign : List ℕ → Touch
behind_sign w = cond (is_one_of_words closed_signs w) solid (cond (is_one_of_words ("." ∷ "?." ∷ []) w) dotted (cond (is_one_of_words ("*" ∷ []) w) starred signed))

abbrev pub is_loose : Touch → Bool
is_loose fresh = true
is_loose apart_from = true
is_loose _ = false

-- no node begins with `=`
abbrev pub takes_token : Touch → TokenClass → List ℕ → Bool
takes_token fresh Punctuator w = not (nat_eq (first_code w) 61)
takes_token fresh c w = true
takes_token apart_from c w = true
takes_token broken c w = true
takes_token s Punctuator w = takes_sign s w
takes_token s c w = false

abbrev pub behind_token : TokenClass → List ℕ → Touch
behind_token Punctuator w = behind_sign w
behind_token IdentifierName w = named
behind_token TokenClass.Keyword w = named
behind_token TokenClass.PrivateName w = named
behind_token Template w = solid
behind_token _ w = valued

-- a line break may stand behind it
abbrev pub takes_line : Touch → Bool
takes_line fresh = false
takes_line starred = false
takes_line signed = false
takes_line echoed = false
takes_line broken = false
takes_line _ = true

abbrev pub takes_space : Touch → Bool
takes_space fresh = false
takes_space echoed = false
takes_space broken = false
takes_space _ = true

-- what follows may be asked to stand on the same line
abbrev pub takes_joined : Touch → Bool
takes_joined fresh = false
takes_joined broken = false
takes_joined _ = true

-- a space where a character follows may stand behind it
abbrev pub takes_apart : Touch → Bool
takes_apart solid = true
takes_apart signed = true
takes_apart _ = false

-- an expression stands before
abbrev pub takes_loose : Touch → Bool
takes_loose valued = true
takes_loose closed = true
takes_loose _ = false

abbrev pub is_valued : Touch → Bool
is_valued valued = true
is_valued _ = false

-- what stands on the same line follows
abbrev pub goes_on_here : {R : Type 0} → List (PieceOf R) → Bool
goes_on_here (tok c w ∷ qs) = true
goes_on_here (sub s ∷ qs) = true
goes_on_here (open_parameters ∷ qs) = true
goes_on_here (lay space ∷ qs) = goes_on_here qs
goes_on_here _ = false

abbrev pub no_pieces : {R : Type 0} → List (PieceOf R) → Bool
no_pieces [] = true
no_pieces (q ∷ qs) = false

-- a part follows
abbrev pub leads_part : {R : Type 0} → List (PieceOf R) → Bool
leads_part (sub s ∷ qs) = true
leads_part _ = false

-- the space behind a node that isn't wrapped follows
abbrev pub loose_first : {R : Type 0} → List (PieceOf R) → Bool
loose_first (lay loose ∷ qs) = true
loose_first (lay deeper ∷ qs) = loose_first qs
loose_first (lay shallower ∷ qs) = loose_first qs
loose_first (may w ∷ qs) = loose_first qs
loose_first (many w ∷ qs) = loose_first qs
loose_first (unbroken ∷ qs) = loose_first qs
loose_first (no_operand ∷ qs) = loose_first qs
loose_first _ = false

-- what may follow a sign that could go on: a space; behind `!` an operand; behind `+` and `-` one kept apart from another such sign
abbrev pub goes_behind_sign : {R : Type 0} → List ℕ → List (PieceOf R) → Bool
goes_behind_sign w (lay space ∷ qs) = true
goes_behind_sign w (sub s ∷ qs) = is_one_of_words ("!" ∷ []) w
goes_behind_sign w (lay (apart c) ∷ qs) = leads_part qs && ((is_one_of_words ("+" ∷ []) w && nat_eq c 43) || (is_one_of_words ("-" ∷ []) w && nat_eq c 45))
goes_behind_sign w _ = false

abbrev pub is_signed : Touch → Bool
is_signed signed = true
is_signed _ = false

-- what may follow a token; a literal is the whole node
abbrev pub goes_behind : {R : Type 0} → TokenClass → List ℕ → List (PieceOf R) → Bool
goes_behind Punctuator w qs = not (is_signed (behind_sign w)) || goes_behind_sign w qs
goes_behind IdentifierName w qs = true
goes_behind TokenClass.Keyword w qs = true
goes_behind Template w qs = true
goes_behind TokenClass.End w qs = false
goes_behind c w qs = no_pieces qs

-- a shorthand key's value follows it; no part is a script
abbrev pub echo_followed : {R : Type 0} → Sort → List (PieceOf R) → Bool
echo_followed an_echo qs = leads_part qs
echo_followed a_script qs = false
echo_followed x qs = true

-- behind an item of a list, and at the end of a node
abbrev pub is_item_touch : Touch → Bool
is_item_touch apart_from = true
is_item_touch solid = true
is_item_touch named = true
is_item_touch valued = true
is_item_touch closed = true
is_item_touch stated = true
is_item_touch _ = false

-- the flags say that the first part may be a number that `.` would join, and that parameters stand open
abbrev pub neat : Bool → Bool → Touch → List Piece → Bool
neat b o s [] = is_item_touch s && not o
neat b o s (tok c w ∷ qs) = takes_token s c w && (goes_behind c w qs && neat b o (behind_token c w) qs)
neat b o s (may w ∷ qs) = neat b o s qs
neat b o s (many w ∷ qs) = neat b o s qs
neat b o s (ahead w ∷ qs) = false
neat b o s (unbroken ∷ qs) = takes_joined s && (goes_on_here qs && neat b o s qs)
neat b o s (no_operand ∷ qs) = no_pieces qs && neat b o s qs
neat b o s (ending e ∷ qs) = takes_sign s (codes ";") && neat b o solid qs
neat b o s (open_parameters ∷ qs) = not o && (is_loose s && neat b true solid qs)
neat b o s (close_parameters ∷ qs) = o && (takes_sign s (codes ")") && neat b false solid qs)
neat b o s (sub x ∷ qs) = takes_part s (slot_sort x) && (echo_followed (slot_sort x) qs && neat true o (behind_part b (slot_sort x)) qs)
neat b o s (absent ∷ qs) = not (loose_first qs) && neat true o s qs
neat b o s (never ∷ qs) = true
neat b o s (lay space ∷ qs) = takes_space s && neat b o apart_from qs
neat b o s (lay line ∷ qs) = takes_line s && neat b o broken qs
neat b o s (lay feed ∷ qs) = takes_line s && neat b o broken qs
neat b o s (lay (apart c) ∷ qs) = takes_apart s && neat b o signed qs
neat b o s (lay loose ∷ qs) = takes_loose s && neat b o closed qs
neat b o s (lay h ∷ qs) = neat b o s qs

-- what stands behind a list is neat behind any item of it, and behind the sign before it
abbrev pub NeatBehind : Bool → List Piece → Type 0
NeatBehind o ys = (b : Bool) (s : Touch) → is_item_touch s ≡ true → neat b o s ys ≡ true

-- nothing more is neat behind an item
pub nothing_behind : NeatBehind false []
nothing_behind b s h = ap (λ t. t && true) h

-- before an item
abbrev pub is_free : Touch → Bool
is_free apart_from = true
is_free solid = true
is_free _ = false

-- a part that is an item
abbrev pub is_item_sort : Sort → Bool
is_item_sort an_echo = false
is_item_sort a_script = false
is_item_sort _ = true

abbrev pub is_item_piece : Piece → Bool
is_item_piece (sub x) = is_item_sort (slot_sort x)
is_item_piece never = true
is_item_piece _ = false

pub behind_item : (b : Bool) (x : Sort) → is_item_sort x ≡ true → is_item_touch (behind_part b x) ≡ true
behind_item b an_operand h = refl
behind_item true a_tight h = refl
behind_item false a_tight h = refl
behind_item b a_name h = refl
behind_item b an_ended h = refl
behind_item b a_quasi h = refl
behind_item b a_method h = refl
behind_item b a_chunk h = refl
behind_item b a_key h = refl
behind_item b an_echo h = h
behind_item b a_script h = refl
behind_item b another h = refl

free_takes : (s : Touch) (x : Sort) → is_free s ≡ true → takes_part s x ≡ true
free_takes apart_from x h = refl
free_takes solid x h = refl
free_takes fresh x h = refl
free_takes named x h = absurd (false≢true h)
free_takes valued x h = absurd (false≢true h)
free_takes stated x h = absurd (false≢true h)
free_takes closed x h = absurd (false≢true h)
free_takes dotted x h = absurd (false≢true h)
free_takes starred x h = absurd (false≢true h)
free_takes signed x h = absurd (false≢true h)
free_takes echoed x h = absurd (false≢true h)
free_takes broken x h = absurd (false≢true h)

pub item_followed : (x : Sort) (ys : List Piece) → is_item_sort x ≡ true → echo_followed x ys ≡ true
item_followed an_echo ys h = absurd (false≢true h)
item_followed a_script ys h = absurd (false≢true h)
item_followed an_operand ys h = refl
item_followed a_tight ys h = refl
item_followed a_name ys h = refl
item_followed an_ended ys h = refl
item_followed a_quasi ys h = refl
item_followed a_method ys h = refl
item_followed a_chunk ys h = refl
item_followed a_key ys h = refl
item_followed another ys h = refl

-- an item, before what is neat behind it
pub neat_item : (b o : Bool) (s : Touch) (q : Piece) (ys : List Piece) → is_free s ≡ true → is_item_piece q ≡ true → NeatBehind o ys → neat b o s (q ∷ ys) ≡ true
neat_item b o s (sub x) ys h k f =
    and_from (takes_part s (slot_sort x)) _ (free_takes s (slot_sort x) h) (and_from (echo_followed (slot_sort x) ys) _ (item_followed (slot_sort x) ys k) (f true (behind_part b (slot_sort x)) (behind_item b (slot_sort x) k)))
neat_item b o s never ys h k f = refl
neat_item b o s (tok c w) ys h k f = absurd (false≢true k)
neat_item b o s (may w) ys h k f = absurd (false≢true k)
neat_item b o s (many w) ys h k f = absurd (false≢true k)
neat_item b o s (ahead w) ys h k f = absurd (false≢true k)
neat_item b o s unbroken ys h k f = absurd (false≢true k)
neat_item b o s no_operand ys h k f = absurd (false≢true k)
neat_item b o s (ending e) ys h k f = absurd (false≢true k)
neat_item b o s open_parameters ys h k f = absurd (false≢true k)
neat_item b o s close_parameters ys h k f = absurd (false≢true k)
neat_item b o s absent ys h k f = absurd (false≢true k)
neat_item b o s (lay x) ys h k f = absurd (false≢true k)

pub token_comma : (s : Touch) → is_item_touch s ≡ true → takes_token s Punctuator (codes ",") ≡ true
token_comma apart_from h = refl
token_comma fresh h = refl
token_comma solid h = refl
token_comma named h = refl
token_comma valued h = refl
token_comma stated h = refl
token_comma closed h = refl
token_comma dotted h = absurd (false≢true h)
token_comma starred h = absurd (false≢true h)
token_comma signed h = absurd (false≢true h)
token_comma echoed h = absurd (false≢true h)
token_comma broken h = absurd (false≢true h)

-- an item on a line of its own is neat
pub line_item : (b o : Bool) (q : Piece) (ys : List Piece) → is_item_piece q ≡ true → NeatBehind o ys → neat b o broken (q ∷ ys) ≡ true
line_item b o (sub x) ys k f = and_from (echo_followed (slot_sort x) ys) _ (item_followed (slot_sort x) ys k) (f true (behind_part b (slot_sort x)) (behind_item b (slot_sort x) k))
line_item b o never ys k f = refl
line_item b o (tok c w) ys k f = absurd (false≢true k)
line_item b o (may w) ys k f = absurd (false≢true k)
line_item b o (many w) ys k f = absurd (false≢true k)
line_item b o (ahead w) ys k f = absurd (false≢true k)
line_item b o unbroken ys k f = absurd (false≢true k)
line_item b o no_operand ys k f = absurd (false≢true k)
line_item b o (ending e) ys k f = absurd (false≢true k)
line_item b o open_parameters ys k f = absurd (false≢true k)
line_item b o close_parameters ys k f = absurd (false≢true k)
line_item b o absent ys k f = absurd (false≢true k)
line_item b o (lay x) ys k f = absurd (false≢true k)
