use Rattle.agc_rope_commands.proofs.ropes.styled_text.Goals as goal

pub returns-in_ok-rope_source-in-Source : goal.returns-in_ok-rope_source-in-Source
returns-in_ok-rope_source-in-Source c =
    rw (c.in-Source.is, c.into_bytes-in-Source.ensures.value)
    (c.in_ok-rope_source-in-Source.ensures.source, c.in_ok-rope_source-in-Source.ensures.weaves)
