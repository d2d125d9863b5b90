-- What stands between the parts of a node, and how: bits of its own, and marks, where its own text is known.
use Rattle.std.specs.Prelude.{ℕ, Bool, true, false, cond, List, [], ◌∷◌, ◌++◌, codes, map}
use Rattle.language.specs.Pieces.{Role, Piece, PieceOf, tok, may, many, ahead, unbroken, no_operand, ending, open_parameters, close_parameters, sub, absent, never, lay}
use Rattle.language.specs.Pieces as piece
use Rattle.printer.specs.declared.fragments.Fragment.{Fragment}
use Rattle.printer.specs.declared.fragments.Fragment.TheVariants as own
use Rattle.printer.specs.declared.fragments.ListLayout as serieses
use Rattle.printer.specs.declared.fragments.ListLayout.TheVariants as series
use Rattle.printer.specs.declared.fragments.Frame.{Frame}
use Rattle.printer.specs.declared.site.Site.{Site}
use Rattle.printer.specs.declared.site.Site.TheVariants.{Plain}
use Rattle.printer.specs.declared.part_sites.PartSites.{PartSites}
use Rattle.printer.specs.declared.part_sites.PartSites.TheVariants.{AllPlain}
use Rattle.printer.specs.Sites.{site_of, slot_site}

-- the next part, or a gap, is `here`, with what the layout asks of it
pub data Mark : Type 0 where
  text : List ℕ → Mark
  line feed deeper shallower loose : Mark
  apart : ℕ → Mark
  here : Site → Mark

-- the marks of a spelling, by what is asked of its positions
abbrev pub marks_by : {R : Type 0} → (R → Site) → List (PieceOf R) → List Mark
marks_by f [] = []
marks_by f (tok c w ∷ qs) = text w ∷ marks_by f qs
marks_by f (may w ∷ qs) = marks_by f qs
marks_by f (many w ∷ qs) = marks_by f qs
marks_by f (ahead w ∷ qs) = marks_by f qs
marks_by f (unbroken ∷ qs) = marks_by f qs
marks_by f (no_operand ∷ qs) = marks_by f qs
marks_by f (ending e ∷ qs) = text (codes ";") ∷ marks_by f qs
marks_by f (open_parameters ∷ qs) = text (codes "(") ∷ marks_by f qs
marks_by f (close_parameters ∷ qs) = text (codes ")") ∷ marks_by f qs
marks_by f (sub a ∷ qs) = here (f a) ∷ marks_by f qs
marks_by f (absent ∷ qs) = here Plain ∷ marks_by f qs
marks_by f (never ∷ qs) = marks_by f qs
marks_by f (lay piece.space ∷ qs) = text (codes " ") ∷ marks_by f qs
marks_by f (lay piece.line ∷ qs) = line ∷ marks_by f qs
marks_by f (lay piece.feed ∷ qs) = feed ∷ marks_by f qs
marks_by f (lay piece.deeper ∷ qs) = deeper ∷ marks_by f qs
marks_by f (lay piece.shallower ∷ qs) = shallower ∷ marks_by f qs
marks_by f (lay (piece.apart c) ∷ qs) = apart c ∷ marks_by f qs
marks_by f (lay piece.loose ∷ qs) = loose ∷ marks_by f qs

-- of a spelling at its position
abbrev pub marks_of : List (PieceOf Role) → List Mark
marks_of qs = marks_by site_of qs

-- of a spelling of the table
abbrev pub piece_marks : List Piece → List Mark
piece_marks qs = marks_by slot_site qs

-- a bit of a node, before its own text is known
pub data Bit : Type 0 where
  token : List ℕ → Bit
  own_text newline feeding loosely : Bit
  chunk : Bool → Bool → Bit
  -- the own text behind `#`
  hashed : Bit

abbrev pub bit_of : Fragment → Bit
bit_of (own.Token s) = token s.now
bit_of own.NodeText = own_text
bit_of (own.TemplateElement a b) = chunk a b
bit_of own.PrivateText = hashed
bit_of own.Space = token (codes " ")
bit_of own.Line = newline
bit_of own.LineFeed = feeding
bit_of own.SpaceAfterNumber = loosely

abbrev pub bits_of : List Fragment → List Bit
bits_of [] = []
bits_of (p ∷ ps) = bit_of p ∷ bits_of ps

-- how the parts behind the first ones stand
pub data Chain : Type 0 where
  nothing joined commas lines feeds : Chain
  parameters : List Bit → Chain

abbrev pub chain_of : serieses.ListLayout → Chain
chain_of series.Nothing = nothing
chain_of series.Joined = joined
chain_of series.Commas = commas
chain_of series.Parameters = parameters (token (codes ")") ∷ token (codes " ") ∷ [])
chain_of series.ArrowParameters = parameters (token (codes ")") ∷ token (codes " ") ∷ token (codes "=>") ∷ token (codes " ") ∷ [])
chain_of series.Specifiers = parameters (token (codes "}") ∷ [])
chain_of series.SpecifiersFrom = parameters (token (codes "}") ∷ token (codes " ") ∷ token (codes "from") ∷ token (codes " ") ∷ [])
chain_of series.Lines = lines
chain_of series.Feeds = feeds

-- what stands round the parts of a node
pub record Shape : Type 0 where
  pub front : List (List Bit)
  pub opener : List Bit
  pub chain : Chain
  pub closer : List Bit
  pub sites : PartSites

abbrev pub shape_of : Frame → Shape
shape_of f = record { front = map (λ p. bits_of p.now) f.front.now; opener = bits_of f.opener.now; chain = chain_of f.series; closer = bits_of f.closer.now; sites = f.sites }

abbrev pub listed : List Bit → Chain → List Bit → Shape
listed o t c = record { front = []; opener = o; chain = t; closer = c; sites = AllPlain }

-- first parts of which the layout asks this
abbrev pub asking : PartSites → List (List Bit) → List Bit → Shape
asking p fs close = record { front = fs; opener = []; chain = nothing; closer = close; sites = p }

abbrev pub fronted : List (List Bit) → List Bit → Shape
fronted fs close = asking AllPlain fs close

-- what stands before a part of a list, by whether it is the last
abbrev pub before_bits : Chain → Bool → List Bit
before_bits (parameters xs) true = xs
before_bits lines b = newline ∷ []
before_bits _ b = []

-- what stands behind a part, or a gap; whether none and whether one is behind it
abbrev pub after_bits : Chain → Bool → Bool → Bool → List Bit
after_bits commas g true b = cond g (token (codes ",") ∷ []) []
after_bits commas g false b = token (codes ",") ∷ token (codes " ") ∷ []
after_bits (parameters xs) g true b = []
after_bits (parameters xs) g false true = []
after_bits (parameters xs) g false false = token (codes ",") ∷ token (codes " ") ∷ []
after_bits feeds g a b = feeding ∷ []
after_bits _ g a b = []

-- Tokens side by side as one

abbrev pub glued : List ℕ → List Bit → List Bit
glued v (token w ∷ bs) = token (v ++ w) ∷ bs
glued v bs = token v ∷ bs

abbrev pub fused : List Bit → List Bit
fused [] = []
fused (token v ∷ bs) = glued v (fused bs)
fused (b ∷ bs) = b ∷ fused bs

abbrev pub fused_shape : Shape → Shape
fused_shape s = record { front = map fused s.front; opener = fused s.opener; chain = s.chain; closer = fused s.closer; sites = s.sites }
