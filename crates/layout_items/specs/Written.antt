-- What is written.
use Rattle.std.specs.Prelude.{◌≡◌, ℕ, ◌+◌, ◌<◌, List, ◌++◌, length, Result, Ok, Err, Some, ◌⊎◌}
use Rattle.std.specs.String.{string_bytes}
use Rattle.layout_items.specs.declared.item_list.ItemList.{ItemList}
use Rattle.layout_items.specs.declared.style.Style.{Style}
use Rattle.layout_items.specs.Layout.{IsLayout}
use Rattle.layout_items.specs.declared.layout_error.LayoutError.{LayoutError}
use Rattle.layout_items.specs.declared.layout_error.LayoutError.TheVariants.{OutOfMemory, TooLong}
use Rattle.layout_items.specs.declared.output.Output.{Output}

abbrev pub bytes_of : Output → List ℕ
bytes_of o = string_bytes o.text

-- these bytes were written; or there would be more than there may be; or memory was refused
abbrev pub Appended : Result (Unit {0}) LayoutError → Output → Output → List ℕ → Type 0
Appended (Ok u) old new bytes = (bytes_of new ≡ bytes_of old ++ bytes) × (new.limit ≡ old.limit)
Appended (Err TooLong) old new bytes = old.limit < length (bytes_of old) + length bytes
Appended (Err OutOfMemory) old new bytes = Unit {0}

-- why there is no layout: what the items were refused for; or memory was refused; or the layout is longer than it may be
abbrev pub Refuses : Style → ℕ → ItemList → LayoutError → Type 0
Refuses style limit items OutOfMemory = Unit {0}
Refuses style limit items TooLong = (items.refused ≡ Some TooLong) ⊎ ((text : List ℕ) → IsLayout style items.items.items text → limit < length text)
