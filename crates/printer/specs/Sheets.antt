-- What an emitter shows, and what it writes of a fragment.
use Rattle.std.specs.Prelude.{◌≡◌, ℕ, zero, suc, Bool, false, cond, nat_eq, slice_index_or, List, [], ◌∷◌, ◌++◌, codes, Option, Some, None}
use Rattle.language.specs.Layout.{indent}
use Rattle.printer.specs.declared.fragments.SignOperator.{SignOperator}
use Rattle.printer.specs.declared.fragments.SignOperator.TheVariants.{Plus, Minus}
use Rattle.printer.specs.declared.fragments.Fragment.{Fragment}
use Rattle.printer.specs.declared.fragments.Fragment.TheVariants as own
use Rattle.printer.specs.declared.emitter.Emitter.{Emitter}
use Rattle.printer.specs.Standings.{Standing, Stands}

abbrev pub sign_code : SignOperator → ℕ
sign_code Plus = 43
sign_code Minus = 45

-- with a space first, where it begins with this sign
abbrev pub held : Option SignOperator → List ℕ → List ℕ
held None t = t
held (Some s) t = cond (nat_eq (slice_index_or t 0 0) (sign_code s)) (32 ∷ t) t

abbrev pub flag_at : List Bool → ℕ → Bool
flag_at [] i = false
flag_at (b ∷ bs) zero = b
flag_at (b ∷ bs) (suc i) = flag_at bs i

abbrev pub other_flags : List Bool → List Bool
other_flags [] = []
other_flags (b ∷ bs) = bs

-- an emitter beside what it writes to
pub record View : Type 0 where
  pub out : Standing
  pub apart : Option SignOperator
  pub flags : List Bool

abbrev pub seen : Standing → Emitter → View
seen out s = record { out = out; apart = s.apart; flags = s.wraps.flags.now }

-- since `before`, this whole text is written once `next` follows; or the writing failed behind a beginning
abbrev pub Shows : Option (List ℕ) → View → List ℕ → List ℕ → Type 0
Shows before v whole next = (sofar : List ℕ) × Stands before v.out sofar × (whole ≡ sofar ++ held v.apart next)

-- once `later` follows, the new one shows what the old one showed once `sooner` followed
pub record Leads (old new : View) (sooner later : List ℕ) : Type 0 where
  pub leads : (before : Option (List ℕ)) (whole : List ℕ) → Shows before old whole sooner → Shows before new whole later

-- this was written, and nothing else is changed
pub record Writes (old new : View) (t : List ℕ) : Type 0 where
  pub follows : (next : List ℕ) → Leads old new (t ++ next) next
  pub flags : new.flags ≡ old.flags

abbrev pub chunk_text : Bool → Bool → List ℕ → List ℕ
chunk_text a b w = codes (cond a "`" "}") ++ w ++ codes (cond b "`" "${")

abbrev pub piece_text : List ℕ → ℕ → Bool → Fragment → List ℕ
piece_text w d b (own.Token s) = s.now
piece_text w d b own.NodeText = w
piece_text w d b (own.TemplateElement x y) = chunk_text x y w
piece_text w d b own.PrivateText = codes "#" ++ w
piece_text w d b own.Space = codes " "
piece_text w d b own.Line = 10 ∷ indent d
piece_text w d b own.LineFeed = codes "\n"
piece_text w d b own.SpaceAfterNumber = cond b (codes " ") []

abbrev pub pieces_text : List ℕ → ℕ → Bool → List Fragment → List ℕ
pieces_text w d b [] = []
pieces_text w d b (p ∷ ps) = piece_text w d b p ++ pieces_text w d b ps
