-- What may go through the ring.
use Rattle.agc_word.specs.Channels.{IsIoChannel}
use Rattle.agc_ring.specs.declared.item.Item.{Item}
use Rattle.agc_ring.specs.declared.item.Item.TheVariants as item

-- a write goes to a channel from 5 to 777 octal
abbrev pub IsOutside : Item → Type 0
IsOutside (item.Write write) = IsIoChannel write.channel
IsOutside item.End = Unit {0}
