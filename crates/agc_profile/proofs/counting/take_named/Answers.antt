use Rattle.std.proofs.Common.{ap, sym, ◌∙◌}
use Rattle.agc_word.specs.Number.{pattern_of}
use Rattle.agc_store.specs.Memory.{Memory}
use Rattle.agc_profile.specs.DataReads.{data_read}
use Rattle.agc_profile.proofs.Running.{nothing_read, reads_reported, runs_reported}
use Rattle.agc_profile.proofs.counting.take_named.Goals as goal

pub take_reading-requires-clause-words : goal.take_reading-requires-clause-words
take_reading-requires-clause-words c =
    c.none.ensures
    ∙ sym (nothing_read c.order_reads.result (pattern_of 15 c.args.order.now.word) c.args.machine.now.processor.store c.in-Nothing.is)
    ∙ reads_reported c.args.happening.now c.args.order.now c.args.named c.order_reads.result c.args.machine.now.processor.store c.requires.order c.requires.named c.order_reads.ensures

pub take_reading-requires-in_default : goal.take_reading-requires-in_default
take_reading-requires-in_default c =
    record {
      reported = c.requires.reported;
      runs = runs_reported c.args.happening.now c.args.order.now c.args.place c.args.named c.requires.order c.requires.place c.requires.named;
      words = c.data_read-words.ensures
          ∙ ap (λ (m : Memory). data_read c.order_reads.result (pattern_of 15 c.args.order.now.word) m) c.store.ensures
          ∙ reads_reported c.args.happening.now c.args.order.now c.args.named c.order_reads.result c.args.machine.now.processor.store c.requires.order c.requires.named c.order_reads.ensures;
      tally = c.requires.tally;
      sums = c.requires.sums;
      times = c.requires.times;
      room = c.requires.room;
    }
