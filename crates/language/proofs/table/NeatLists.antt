-- Lists of parts are neat.
use Rattle.std.proofs.Common.{◌≡◌, Bool, true, false, cond, ◌&&◌, List, [], ◌∷◌, ◌++◌, refl, sym, ap, ◌∙◌, subst, append_assoc}
use Rattle.std.specs.Prelude.{codes, Some, None}
use Rattle.std.proofs.lemmas.Bool.{false≢true}
use Rattle.tokens.specs.declared.token.TokenClass.TheVariants.{Punctuator}
use Rattle.tree.specs.declared.kind.Kind.{Kind}
use Rattle.tree.specs.declared.kind.Kind.TheVariants as kind
use Rattle.tree.specs.Tree.{Tree, node, Parts, none, part, gap, kind_of}
use Rattle.language.specs.declared.Rank.TheVariants.{Expression, Assignment}
use Rattle.language.specs.declared.Start.TheVariants.{Any}
use Rattle.language.specs.Vocabulary.{is_rest, is_spread, is_pattern, is_identifier, is_target}
use Rattle.language.specs.Pieces.{Role, expr, opening, item, member, Piece, tok, may, many, absent, never, lay, line, deeper, shallower, put, put_at, sign, sp, is_none, separator, listed, elements, argument, bound, with_default, pattern_element, parameters, rest, spread, pattern, name, word, directive_string, ending, of_export, listed_before}
use Rattle.language.specs.Expressions.{module_name, object_part, object_pattern_part, template_elements, sequence}
use Rattle.language.specs.Statements.{lines, prologue, declarators, member_lines, is_directive, braced, imported, exported, from_source, named_imports, export_list}
use Rattle.language.proofs.table.NeatPieces.{Touch, fresh, apart_from, broken, solid, named, valued, closed, stated, dotted, starred, signed, echoed, a_chunk, sort_of, takes_part, is_loose, takes_line, neat, is_item_touch, NeatBehind, is_free, is_item_sort, is_item_piece, neat_item, line_item, nothing_behind, token_comma}

free_touch : (s : Touch) → is_free s ≡ true → is_item_touch s ≡ true
free_touch apart_from h = refl
free_touch solid h = refl
free_touch fresh h = absurd (false≢true h)
free_touch named h = refl
free_touch valued h = refl
free_touch stated h = refl
free_touch closed h = refl
free_touch dotted h = absurd (false≢true h)
free_touch starred h = absurd (false≢true h)
free_touch signed h = absurd (false≢true h)
free_touch echoed h = absurd (false≢true h)
free_touch broken h = absurd (false≢true h)

-- a separator between items, and behind the last
comma_between : (o : Bool) (k : Kind) (ys : List Piece) → ((b : Bool) → neat b o apart_from ys ≡ true) → NeatBehind o (separator k false ++ ys)
comma_between o k ys f b s h = of (is_rest k)
  where
    of : (c : Bool) → neat b o s (cond c (never ∷ []) (tok Punctuator (codes ",") ∷ sp ∷ []) ++ ys) ≡ true
    of true = refl
    of false = ap (λ t. t && neat b o apart_from ys) (token_comma s h) ∙ f b

comma_behind : (o : Bool) (k : Kind) (ys : List Piece) → NeatBehind o ys → NeatBehind o (separator k true ++ ys)
comma_behind o k ys f b s h = of (is_rest k)
  where
    of : (c : Bool) → neat b o s (cond c [] (may (codes ",") ∷ []) ++ ys) ≡ true
    of true = f b s h
    of false = f b s h

-- lists with commas

abbrev pub NeatItems : (Tree → Piece) → Type 0
NeatItems f = (n : Tree) → is_item_piece (f n) ≡ true

joined_list : (f : Tree → Piece) (n : Tree) (xs zs ys : List Piece) → ((f n ∷ xs) ++ zs) ++ ys ≡ f n ∷ (xs ++ (zs ++ ys))
joined_list f n xs zs ys = ap (λ t. f n ∷ t) (append_assoc xs zs ys)

pub neat_listed : (f : Tree → Piece) → NeatItems f → (ps : Parts) (b o : Bool) (s : Touch) (ys : List Piece) → is_free s ≡ true → NeatBehind o ys → neat b o s (listed f ps ++ ys) ≡ true
neat_listed f g none b o s ys h k = k b s (free_touch s h)
neat_listed f g (gap ps) b o s ys h k = refl
neat_listed f g (part n none) b o s ys h k =
    subst (λ t. neat b o s t ≡ true) (sym (joined_list f n (separator (kind_of n) true) [] ys)) (neat_item b o s (f n) _ h (g n) (comma_behind o (kind_of n) ys k))
neat_listed f g (part n (part m ps)) b o s ys h k =
    subst (λ t. neat b o s t ≡ true) (sym (joined_list f n (separator (kind_of n) false) (listed f (part m ps)) ys))
    (neat_item b o s (f n) _ h (g n) (comma_between o (kind_of n) (listed f (part m ps) ++ ys) (λ c. neat_listed f g (part m ps) c o apart_from ys refl k)))
neat_listed f g (part n (gap ps)) b o s ys h k =
    subst (λ t. neat b o s t ≡ true) (sym (joined_list f n (separator (kind_of n) false) (listed f (gap ps)) ys))
    (neat_item b o s (f n) _ h (g n) (comma_between o (kind_of n) (listed f (gap ps) ++ ys) (λ c. neat_listed f g (gap ps) c o apart_from ys refl k)))

hole : (o : Bool) (t : Bool) (ys : List Piece) (b : Bool) (s : Touch) → is_free s ≡ true → neat true o solid ys ≡ true → neat true o apart_from ys ≡ true →
    neat b o s ((absent ∷ sign "," ∷ cond t [] (sp ∷ [])) ++ ys) ≡ true
hole o true ys b s h k l = ap (λ t. t && neat true o solid ys) (token_comma s (free_touch s h)) ∙ k
hole o false ys b s h k l = ap (λ t. t && neat true o apart_from ys) (token_comma s (free_touch s h)) ∙ l

hole_list : (t : Bool) (zs ys : List Piece) → ((absent ∷ sign "," ∷ cond t [] (sp ∷ [])) ++ zs) ++ ys ≡ (absent ∷ sign "," ∷ cond t [] (sp ∷ [])) ++ (zs ++ ys)
hole_list t zs ys = append_assoc (absent ∷ sign "," ∷ cond t [] (sp ∷ [])) zs ys

pub neat_elements : (f : Tree → Piece) → NeatItems f → (ps : Parts) (b o : Bool) (s : Touch) (ys : List Piece) → is_free s ≡ true → NeatBehind o ys → neat b o s (elements f ps ++ ys) ≡ true
neat_elements f g none b o s ys h k = k b s (free_touch s h)
neat_elements f g (gap ps) b o s ys h k =
    subst (λ t. neat b o s t ≡ true) (sym (hole_list (is_none ps) (elements f ps) ys))
    (hole o (is_none ps) (elements f ps ++ ys) b s h (neat_elements f g ps true o solid ys refl k) (neat_elements f g ps true o apart_from ys refl k))
neat_elements f g (part n none) b o s ys h k =
    subst (λ t. neat b o s t ≡ true) (sym (joined_list f n (separator (kind_of n) true) [] ys)) (neat_item b o s (f n) _ h (g n) (comma_behind o (kind_of n) ys k))
neat_elements f g (part n (part m ps)) b o s ys h k =
    subst (λ t. neat b o s t ≡ true) (sym (joined_list f n (separator (kind_of n) false) (elements f (part m ps)) ys))
    (neat_item b o s (f n) _ h (g n) (comma_between o (kind_of n) (elements f (part m ps) ++ ys) (λ c. neat_elements f g (part m ps) c o apart_from ys refl k)))
neat_elements f g (part n (gap ps)) b o s ys h k =
    subst (λ t. neat b o s t ≡ true) (sym (joined_list f n (separator (kind_of n) false) (elements f (gap ps)) ys))
    (neat_item b o s (f n) _ h (g n) (comma_between o (kind_of n) (elements f (gap ps) ++ ys) (λ c. neat_elements f g (gap ps) c o apart_from ys refl k)))

-- what each item is

pub neat_argument : NeatItems argument
neat_argument n = of (is_spread (kind_of n))
  where
    of : (b : Bool) → is_item_piece (put (cond b spread (expr Assignment true Any))) ≡ true
    of true = refl
    of false = refl

pub neat_object_part : NeatItems object_part
neat_object_part (node kind.SpreadElement w g s e ps) = refl
neat_object_part (node kind.Property w g s e ps) = refl
neat_object_part (node _ w g s e ps) = refl

pub neat_pattern_part : (b : Bool) → NeatItems (object_pattern_part b)
neat_pattern_part b (node kind.RestElement w g s e ps) = refl
neat_pattern_part b (node kind.Property w g s e ps) = refl
neat_pattern_part b (node _ w g s e ps) = refl

pub neat_bound : (b : Bool) (k : Kind) → is_item_piece (put_at (bound b k)) ≡ true
neat_bound true k = of (is_pattern k) (is_identifier k)
  where
    of : (x y : Bool) → is_item_piece (put_at (cond x (Some (pattern true Any)) (cond y (Some name) None))) ≡ true
    of true y = refl
    of false true = refl
    of false false = refl
neat_bound false k = of (is_pattern k) (is_target k)
  where
    of : (x y : Bool) → is_item_piece (put_at (cond x (Some (pattern false Any)) (cond y (Some (expr Rattle.language.specs.declared.Rank.TheVariants.LeftHandSide true Any)) None))) ≡ true
    of true y = refl
    of false true = refl
    of false false = refl

pub neat_default : (b : Bool) (k : Kind) → is_item_piece (put_at (with_default b k)) ≡ true
neat_default b kind.AssignmentPattern = refl
neat_default b k = neat_bound b k

pub neat_pattern_element : (b : Bool) → NeatItems (pattern_element b)
neat_pattern_element b n = of (is_rest (kind_of n))
  where
    of : (c : Bool) → is_item_piece (put_at (cond c (Some (rest b false)) (with_default b (kind_of n)))) ≡ true
    of true = refl
    of false = neat_default b (kind_of n)

-- parameters, before what is neat behind an item
pub neat_parameters : (ps : Parts) (b o : Bool) (s : Touch) (after : List Piece) → is_free s ≡ true → NeatBehind o after → neat b o s (parameters after ps) ≡ true
neat_parameters none b o s after h k = refl
neat_parameters (gap ps) b o s after h k = refl
neat_parameters (part n none) b o s after h k = k b s (free_touch s h)
neat_parameters (part n (gap ps)) b o s after h k = refl
neat_parameters (part n (part m none)) b o s after h k = neat_item b o s (pattern_element true n) _ h (neat_pattern_element true n) (comma_behind_now after k)
  where
    comma_behind_now : (ys : List Piece) → NeatBehind o ys → NeatBehind o (separator (kind_of n) true ++ ys)
    comma_behind_now ys f = comma_behind o (kind_of n) ys f
neat_parameters (part n (part m (part l ps))) b o s after h k =
    neat_item b o s (pattern_element true n) _ h (neat_pattern_element true n) (comma_between o (kind_of n) (parameters after (part m (part l ps))) (λ c. neat_parameters (part m (part l ps)) c o apart_from after refl k))
neat_parameters (part n (part m (gap ps))) b o s after h k =
    neat_item b o s (pattern_element true n) _ h (neat_pattern_element true n) (comma_between o (kind_of n) (parameters after (part m (gap ps))) (λ c. refl))

-- the names of imports and exports

pub neat_module_name : NeatItems module_name
neat_module_name n = of (is_identifier (kind_of n))
  where
    of : (c : Bool) → is_item_piece (put (cond c word directive_string)) ≡ true
    of true = refl
    of false = refl

neat_imported : NeatItems imported
neat_imported (node kind.ImportSpecifier w g s e ps) = refl
neat_imported (node _ w g s e ps) = refl

neat_exported : NeatItems exported
neat_exported (node kind.ExportSpecifier w g s e ps) = refl
neat_exported (node _ w g s e ps) = refl

neat_before : (f : Tree → Piece) → NeatItems f → (ps : Parts) (b o : Bool) (s : Touch) (after : List Piece) → is_free s ≡ true → NeatBehind o after → neat b o s (listed_before f after ps) ≡ true
neat_before f g none b o s after h k = refl
neat_before f g (gap ps) b o s after h k = refl
neat_before f g (part n none) b o s after h k = k b s (free_touch s h)
neat_before f g (part n (gap ps)) b o s after h k = refl
neat_before f g (part n (part m none)) b o s after h k = neat_item b o s (f n) _ h (g n) (comma_behind o (kind_of n) after k)
neat_before f g (part n (part m (part l ps))) b o s after h k =
    neat_item b o s (f n) _ h (g n) (comma_between o (kind_of n) (listed_before f after (part m (part l ps))) (λ c. neat_before f g (part m (part l ps)) c o apart_from after refl k))
neat_before f g (part n (part m (gap ps))) b o s after h k = neat_item b o s (f n) _ h (g n) (comma_between o (kind_of n) (listed_before f after (part m (gap ps))) (λ c. refl))

pub source_end : NeatBehind false (from_source)
source_end b apart_from h = refl
source_end b solid h = refl
source_end b named h = refl
source_end b valued h = refl
source_end b stated h = refl
source_end b closed h = refl
source_end b fresh h = absurd (false≢true h)
source_end b dotted h = absurd (false≢true h)
source_end b starred h = absurd (false≢true h)
source_end b signed h = absurd (false≢true h)
source_end b echoed h = absurd (false≢true h)
source_end b broken h = absurd (false≢true h)

names_end : NeatBehind false (sign "}" ∷ from_source)
names_end b apart_from h = refl
names_end b solid h = refl
names_end b named h = refl
names_end b valued h = refl
names_end b stated h = refl
names_end b closed h = refl
names_end b fresh h = absurd (false≢true h)
names_end b dotted h = absurd (false≢true h)
names_end b starred h = absurd (false≢true h)
names_end b signed h = absurd (false≢true h)
names_end b echoed h = absurd (false≢true h)
names_end b broken h = absurd (false≢true h)

export_end : NeatBehind false (sign "}" ∷ absent ∷ ending of_export ∷ [])
export_end b apart_from h = refl
export_end b solid h = refl
export_end b named h = refl
export_end b valued h = refl
export_end b stated h = refl
export_end b closed h = refl
export_end b fresh h = absurd (false≢true h)
export_end b dotted h = absurd (false≢true h)
export_end b starred h = absurd (false≢true h)
export_end b signed h = absurd (false≢true h)
export_end b echoed h = absurd (false≢true h)
export_end b broken h = absurd (false≢true h)

pub neat_named_imports : (ps : Parts) (b : Bool) → neat b false apart_from (named_imports ps) ≡ true
neat_named_imports ps b = neat_before imported neat_imported ps b false solid (sign "}" ∷ from_source) refl names_end

pub neat_export_list : (ps : Parts) (b : Bool) (s : Touch) → is_free s ≡ true → neat b false s (export_list ps) ≡ true
neat_export_list none b s h = refl
neat_export_list (gap none) b s h = export_end b s (free_touch s h)
neat_export_list (gap (part n ps)) b s h = refl
neat_export_list (gap (gap ps)) b s h = refl
neat_export_list (part q none) b s h = names_end b s (free_touch s h)
neat_export_list (part q (gap none)) b s h = neat_item b false s (exported q) _ h (neat_exported q) (comma_behind false (kind_of q) (export_list (gap none)) export_end)
neat_export_list (part q (gap (part n ps))) b s h = neat_item b false s (exported q) _ h (neat_exported q) (comma_between false (kind_of q) (export_list (gap (part n ps))) (λ c. refl))
neat_export_list (part q (gap (gap ps))) b s h = neat_item b false s (exported q) _ h (neat_exported q) (comma_between false (kind_of q) (export_list (gap (gap ps))) (λ c. refl))
neat_export_list (part q (part m none)) b s h = neat_item b false s (exported q) _ h (neat_exported q) (comma_behind false (kind_of q) (export_list (part m none)) names_end)
neat_export_list (part q (part m (part l ps))) b s h =
    neat_item b false s (exported q) _ h (neat_exported q) (comma_between false (kind_of q) (export_list (part m (part l ps))) (λ c. neat_export_list (part m (part l ps)) c apart_from refl))
neat_export_list (part q (part m (gap ps))) b s h =
    neat_item b false s (exported q) _ h (neat_exported q) (comma_between false (kind_of q) (export_list (part m (gap ps))) (λ c. neat_export_list (part m (gap ps)) c apart_from refl))

-- the second and later parts of a sequence
pub neat_sequence : (ps : Parts) → NeatBehind false (sequence ps)
neat_sequence none b s h = nothing_behind b s h
neat_sequence (gap ps) b s h = refl
neat_sequence (part n ps) b s h = ap (λ t. t && neat true false valued (sequence ps)) (token_comma s h) ∙ neat_sequence ps true valued refl

-- parts of a template
pub neat_chunks : (first : Bool) (ps : Parts) (b : Bool) (s : Touch) → takes_part s a_chunk ≡ true → neat b false s (template_elements first ps) ≡ true
neat_chunks first none b s h = refl
neat_chunks first (gap ps) b s h = refl
neat_chunks first (part q none) b s h = ap (λ t. t && true) h
neat_chunks first (part q (gap ps)) b s h = refl
neat_chunks first (part q (part e ps)) b s h = ap (λ t. t && neat true false valued (template_elements false ps)) h ∙ neat_chunks false ps true valued refl

-- Lines

touch_line : (s : Touch) → is_item_touch s ≡ true → takes_line s ≡ true
touch_line apart_from h = refl
touch_line solid h = refl
touch_line named h = refl
touch_line valued h = refl
touch_line stated h = refl
touch_line closed h = refl
touch_line dotted h = refl
touch_line starred h = h
touch_line fresh h = h
touch_line signed h = h
touch_line echoed h = h
touch_line broken h = h

-- a line break, before what is neat there
pub a_line : (o : Bool) (ys : List Piece) → ((b : Bool) → neat b o broken ys ≡ true) → NeatBehind o (lay line ∷ ys)
a_line o ys f b s h = ap (λ t. t && neat b o broken ys) (touch_line s h) ∙ f b

-- lists that are neat behind an item, and leave one
abbrev pub NeatLines : Bool → List Piece → Type 0
NeatLines o qs = (ys : List Piece) → NeatBehind o ys → NeatBehind o (qs ++ ys)

pub neat_lines : (o : Bool) (a : Role) → is_item_sort (sort_of a) ≡ true → (ps : Parts) → NeatLines o (lines a ps)
neat_lines o a h none ys k b s t = k b s t
neat_lines o a h (gap ps) ys k b s t = refl
neat_lines o a h (part n ps) ys k b s t = a_line o (put a ∷ (lines a ps ++ ys)) (λ b. line_item b o (put a) (lines a ps ++ ys) h (λ c u v. neat_lines o a h ps ys k c u v)) b s t

item_sort : (r b : Bool) → is_item_piece (put (cond b (opening r) (item r))) ≡ true
item_sort r true = refl
item_sort r false = refl

-- items of a body, each on a line
pub neat_body : (o r b : Bool) (ps : Parts) → NeatLines o (prologue r b (lay line ∷ []) [] ps)
neat_body o r b none ys k c s t = k c s t
neat_body o r b (gap ps) ys k c s t = refl
neat_body o r b (part n ps) ys k c s t =
    a_line o (put (cond b (opening r) (item r)) ∷ (prologue r (b && is_directive n) (lay line ∷ []) [] ps ++ ys))
    (λ c. line_item c o (put (cond b (opening r) (item r))) (prologue r (b && is_directive n) (lay line ∷ []) [] ps ++ ys) (item_sort r b) (λ d u v. neat_body o r (b && is_directive n) ps ys k d u v)) c s t

pub neat_members : (o : Bool) (ps : Parts) → NeatLines o (member_lines ps)
neat_members o none ys k b s t = k b s t
neat_members o (gap ps) ys k b s t = refl
neat_members o (part n ps) ys k b s t = a_line o (put member ∷ many (codes ";") ∷ (member_lines ps ++ ys)) (λ b. line_item b o (put member) (many (codes ";") ∷ (member_lines ps ++ ys)) refl (λ c u v. neat_members o ps ys k c u v)) b s t

-- a list of declarators
pub neat_declarators : (o : Bool) (a : Role) → is_item_sort (sort_of a) ≡ true → (ps : Parts) (b : Bool) (s : Touch) (ys : List Piece) → is_free s ≡ true → NeatBehind o ys → neat b o s (declarators a ps ++ ys) ≡ true
neat_declarators o a i none b s ys h k = refl
neat_declarators o a i (gap ps) b s ys h k = refl
neat_declarators o a i (part n none) b s ys h k = neat_item b o s (put a) ys h i k
neat_declarators o a i (part n (gap ps)) b s ys h k = refl
neat_declarators o a i (part n (part m ps)) b s ys h k =
    neat_item b o s (put a) (sign "," ∷ sp ∷ (declarators a (part m ps) ++ ys)) h i
    (λ c t l. ap (λ z. z && neat c o apart_from (declarators a (part m ps) ++ ys)) (token_comma t l) ∙ neat_declarators o a i (part m ps) c apart_from ys refl k)

-- the end of what stands in braces
brace_end : NeatBehind false (sign "}" ∷ [])
brace_end b apart_from h = refl
brace_end b solid h = refl
brace_end b named h = refl
brace_end b valued h = refl
brace_end b stated h = refl
brace_end b closed h = refl
brace_end b fresh h = absurd (false≢true h)
brace_end b dotted h = absurd (false≢true h)
brace_end b starred h = absurd (false≢true h)
brace_end b signed h = absurd (false≢true h)
brace_end b echoed h = absurd (false≢true h)
brace_end b broken h = absurd (false≢true h)

pub neat_braced : (ps : Parts) (qs : List Piece) → NeatLines false qs → (b : Bool) (s : Touch) → is_loose s ≡ true → neat b false s (braced ps qs) ≡ true
neat_braced ps qs f b s h = of (is_none ps) s h
  where
    inner : (t c : Bool) (k : Touch) → is_item_touch k ≡ true → neat c false k ((qs ++ cond t [] (lay shallower ∷ lay line ∷ [])) ++ sign "}" ∷ []) ≡ true
    inner true c k h = subst (λ xs. neat c false k xs ≡ true) (sym (append_assoc qs [] (sign "}" ∷ []))) (f (sign "}" ∷ []) brace_end c k h)
    inner false c k h = subst (λ xs. neat c false k xs ≡ true) (sym (append_assoc qs (lay shallower ∷ lay line ∷ []) (sign "}" ∷ []))) (f (lay shallower ∷ lay line ∷ sign "}" ∷ []) (λ d l m. a_line false (sign "}" ∷ []) (λ e. refl) d l m) c k h)

    of : (t : Bool) (s : Touch) → is_loose s ≡ true → neat b false s (sign "{" ∷ cond t [] (lay deeper ∷ []) ++ qs ++ cond t [] (lay shallower ∷ lay line ∷ []) ++ sign "}" ∷ []) ≡ true
    of true fresh h = inner true b solid refl
    of true apart_from h = inner true b solid refl
    of false fresh h = inner false b solid refl
    of false apart_from h = inner false b solid refl
    of t solid h = absurd (false≢true h)
    of t named h = absurd (false≢true h)
    of t valued h = absurd (false≢true h)
    of t stated h = absurd (false≢true h)
    of t closed h = absurd (false≢true h)
    of t dotted h = absurd (false≢true h)
    of t starred h = absurd (false≢true h)
    of t signed h = absurd (false≢true h)
    of t echoed h = absurd (false≢true h)
    of t broken h = absurd (false≢true h)
