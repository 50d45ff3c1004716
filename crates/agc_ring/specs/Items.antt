-- Writes as they go through the ring: each as an item, in order, and then the end.
use Rattle.std.specs.Prelude.{Bool, true, false, List, [], ◌∷◌, ◌++◌, map}
use Rattle.agc_word.specs.declared.channel_write.ChannelWrite.{ChannelWrite}
use Rattle.agc_ring.specs.declared.item.Item.{Item}
use Rattle.agc_ring.specs.declared.item.Item.TheVariants as item

-- what is sent for a run
unfoldable pub items_of : List ChannelWrite → List Item
items_of writes = map (λ write. item.Write write) writes ++ item.End ∷ []

-- the writes before the first end
unfoldable pub shown_in : List Item → List ChannelWrite
shown_in [] = []
shown_in (item.Write write ∷ items) = write ∷ shown_in items
shown_in (item.End ∷ items) = []

-- the end is among these items
unfoldable pub has_end : List Item → Bool
has_end [] = false
has_end (item.Write write ∷ items) = has_end items
has_end (item.End ∷ items) = true
