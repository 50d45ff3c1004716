-- A field of the panel after a list of channel writes.
use Rattle.std.specs.Prelude.{List, Option, None, unwrap_or}
use Rattle.std.specs.List.{filter_map, last_or}
use Rattle.agc_word.specs.declared.channel_write.ChannelWrite.{ChannelWrite}

-- the value from the last write that names a field, or the earlier one if none does
unfoldable pub field_after : {A : Type 0}
    → A → (ChannelWrite → Option A) → List ChannelWrite → A
field_after before given writes = unwrap_or (last_or None (filter_map given writes)) before
