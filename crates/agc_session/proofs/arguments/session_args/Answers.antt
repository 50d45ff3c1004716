use Rattle.agc_session.proofs.arguments.session_args.Goals as goal

pub returns : goal.returns
returns c = record {
  rope = c.in_ok-path_of.ensures;
  script = c.in_ok-text_of.ensures;
  limit = c.number_of.ensures;
  form = c.form_of.ensures;
}
