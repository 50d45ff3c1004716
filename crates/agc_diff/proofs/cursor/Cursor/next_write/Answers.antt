use Rattle.std.proofs.Common.{Some, refl, ap, sym, ◌∙◌}
use Rattle.agc_word.specs.declared.channel_write.ChannelWrite.{ChannelWrite}
use Rattle.agc_diff.proofs.Followed.{ended, took_held, took_next, took_none}
use Rattle.agc_diff.proofs.cursor.Cursor.next_write.Goals.{in-Some, in-None+in-Wrote}
use Rattle.agc_diff.proofs.cursor.Cursor.next_write.Goals as goal

pub returns-in-Stopped-clause-gone : goal.returns-in-Stopped-clause-gone
returns-in-Stopped-clause-gone g c = took_none _ _ _ _ c.in-Stopped.ensures.next

pub returns-in-Stopped-clause-ended : goal.returns-in-Stopped-clause-ended
returns-in-Stopped-clause-ended g c _ = ended _ _ _ _ c.in-None.is c.in-Stopped.ensures.next

pub returns-clause-gone : goal.returns-clause-gone
returns-clause-gone g c =
    elim c.match-self.branch [
      | in-Some w ↦ took_held _ _ _ _ _ (sym w.machine-is) (w.in-Some.is ∙ ap (λ (x : ChannelWrite). Some x) (sym w.write-is)) refl c.take.ensures.all
      | in-None+in-Wrote w ↦
          took_next _ _ _ _ _ _ _ (sym w.machine-is) (sym w.write-is) w.in-None.is refl w.in-Wrote.ensures.next c.take.ensures.all
    ]
