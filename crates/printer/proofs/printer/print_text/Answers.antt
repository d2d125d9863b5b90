use Rattle.std.proofs.Common.{◌≡◌, ◌∙◌, false, List, ℕ, Result, IfOk}
use Rattle.std.proofs.lemmas.Result.{IfOk-weaker}
use Rattle.std.specs.String.{string_bytes}
use Rattle.language.specs.Pieces.{script}
use Rattle.language.specs.Layout.{layout}
use Rattle.printer.specs.Fits.{wrapped_by}
use Rattle.printer.specs.Texts.{IsLaid, IsFixed}
use Rattle.printer.proofs.PlannedLayout.{fixed_of_laid}
use Rattle.printer.proofs.Standings.{text_whole}
use Rattle.printer.proofs.printer.print_text.Goals as goal

laid : (c : goal.After-into_string) (bytes : List ℕ) → (bytes ≡ string_bytes c.print_whole.new.out.string) × (c.print_whole.new.out.is_refused ≡ false) → IsLaid c.args.wraps.now.flags.items c.args.program.now bytes
laid c bytes h = λ k. h.0 ∙ text_whole _ _ _ _ (layout (wrapped_by c.args.wraps.now.flags.items) c.args.program.now script 1 0) c.in_ok-text.ensures.empty c.in_ok-text.ensures.given h.1 (c.print_whole.ensures.laid k)

of_bytes : {X E : Type 0} (bytes : X → List ℕ) (P Q : List ℕ → Type 0) (r : Result X E) → ((b : List ℕ) → P b → Q b) → IfOk r (λ s. P (bytes s)) → IfOk r (λ s. Q (bytes s))
of_bytes bytes P Q r f h = IfOk-weaker r (λ s. P (bytes s)) (λ s. Q (bytes s)) (λ s p. f (bytes s) p) h

pub returns : goal.returns
returns c =
    let Whole : List ℕ → Type 0 = λ b. (b ≡ string_bytes c.print_whole.new.out.string) × (c.print_whole.new.out.is_refused ≡ false) in
    let wraps = c.args.wraps.now.flags.items in
    let n = c.args.program.now in
    record {
      laid = of_bytes string_bytes Whole (IsLaid wraps n) c.into_string.result (λ b h. laid c b h) c.into_string.ensures;
      fixed = of_bytes string_bytes Whole (IsFixed wraps n) c.into_string.result (λ b h. fixed_of_laid wraps n b (laid c b h)) c.into_string.ensures;
    }
