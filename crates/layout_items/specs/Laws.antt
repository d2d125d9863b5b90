-- What holds of every layout.
use Rattle.std.specs.Prelude.{◌≡◌, ℕ, List}
use Rattle.layout_items.specs.declared.item.Item.{Item}
use Rattle.layout_items.specs.declared.style.Style.{Style}
use Rattle.layout_items.specs.Layout.{IsLayout}

-- items have one layout at most
abbrev pub AtMostOneLayout : Type 0
AtMostOneLayout = (style : Style) (items : List Item) (a b : List ℕ) → IsLayout style items a → IsLayout style items b → a ≡ b
