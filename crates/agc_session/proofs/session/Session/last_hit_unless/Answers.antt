use Rattle.std.specs.Prelude.{◌≡◌}
use Rattle.agc_session.specs.Session.{script_of}
use Rattle.agc_session.proofs.Back.{when_found}
use Rattle.agc_session.proofs.session.Session.last_hit_unless.Goals as goal

pub returns : goal.returns
returns g c =
    let known : c.in_ok-script.script ≡ script_of c.args.self.now = rw c.in_ok-script.ensures.ok_part at c.script.ensures.script_of in
    when_found c.args.condition c.args.count _ c.args.self.now c.in_ok-script.script c.search_back.result c.self.view_is c.self.invariant.session known c.search_back.ensures
