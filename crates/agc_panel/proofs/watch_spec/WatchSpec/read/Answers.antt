use Rattle.std.proofs.Common.{refl}
use Rattle.agc_panel.specs.WatchSpec.{spec_of}
use Rattle.agc_panel.proofs.watch_spec.WatchSpec.read.Goals as goal

pub returns : goal.returns
unfolding spec_of
returns c = rw (c.in_ok-core_bank.ensures, c.in_ok-core_offset.ensures, c.in_ok-sets.ensures, c.in_ok-lst1_bank.ensures, c.in_ok-lst1_offset.ensures, c.in_ok-lst2_bank.ensures, c.in_ok-lst2_offset.ensures) refl
