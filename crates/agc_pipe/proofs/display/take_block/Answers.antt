use Rattle.std.proofs.Common.{arith, ◌≡◌, ◌++◌, ◌∙◌, take}
use Rattle.std.proofs.lemmas.Grind.{common_steps}
use Rattle.agc_pipe.proofs.Takes.{showing_all, end_all}
use Rattle.agc_pipe.proofs.display.take_block.Goals as goal

pub returns-clause-end : goal.returns-clause-end
returns-clause-end g c =
    let all : c.next_items-count.new.self.received ≡ c.args.receiver.now.received ++ (take c.next_items-count.result c.next_items-count.new.items) = grind (arith, common_steps) in
    c.poll_of.ensures ∙ c.show_all-is_over.ensures.end ∙ end_all c.args.receiver.now.received (take c.next_items-count.result c.next_items-count.new.items) c.next_items-count.new.self.received all c.requires.open

pub returns-clause-shown : goal.returns-clause-shown
returns-clause-shown g c =
    let all : c.next_items-count.new.self.received ≡ c.args.receiver.now.received ++ (take c.next_items-count.result c.next_items-count.new.items) = grind (arith, common_steps) in
    showing_all c.show_all-is_over.new.self c.args.receiver.now.received (take c.next_items-count.result c.next_items-count.new.items) c.next_items-count.new.self.received all c.requires.open
    (c.show_all-is_over.ensures.shown _ c.requires.shown)
