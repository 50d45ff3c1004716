use Rattle.agc_session.proofs.Writes.{hit_of_write, miss_of_write, miss_otherwise}
use Rattle.agc_session.proofs.search.advance_to_write.Goals as goal

pub returns-then-is_hit_by_write : goal.returns-then-is_hit_by_write
returns-then-is_hit_by_write c =
    hit_of_write c.args.condition.now c.args.end c.args.panel.now c.take.new.self c.args.machine.now c.next_write_before-stepped.new.self
    c.next_write_before-stepped.result _ c.in-Wrote.is c.requires c.next_write_before-stepped.ensures.next c.take.ensures.named c.if-is_hit_by_write.ensures.meets

pub returns-else-is_hit_by_write : goal.returns-else-is_hit_by_write
returns-else-is_hit_by_write c =
    miss_of_write c.args.condition.now c.args.end c.args.panel.now c.take.new.self c.args.machine.now c.next_write_before-stepped.new.self
    c.next_write_before-stepped.result _ c.in-Wrote.is c.requires c.next_write_before-stepped.ensures.next c.take.ensures.named c.if-is_hit_by_write.ensures.meets

pub returns-in_default : goal.returns-in_default
returns-in_default c =
    miss_otherwise c.args.condition.now c.args.end c.args.panel.now c.args.machine.now c.next_write_before-stepped.new.self
    c.next_write_before-stepped.result c.requires c.next_write_before-stepped.ensures.next c.in_default.not-Wrote
