use Rattle.std.proofs.Common.{append_assoc}
use Rattle.agc_rope_commands.proofs.ropes.misnamed_line.Goals as goal

pub returns : goal.returns
returns c = simp (c.in_ok-push_str-3.ensures.bytes, c.in_ok-push_str-2.ensures.bytes, c.in_ok-push_str.ensures.bytes, c.in_ok-push_order.ensures, c.in_ok-write.ensures.bytes, c.new-text.ensures.bytes, c.mnemonic.ensures, c.is_extracode.ensures, append_assoc)
