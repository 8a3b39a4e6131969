-- Inner contracts alone use this; nothing here has to be believed.
-- What a pause of a source means to a framer.
use Rattle.std.specs.Prelude.{ℕ, Bool, true, false}
use Rattle.io_edge.specs.declared.allowance.Pause.{Pause}
use Rattle.io_edge.specs.declared.allowance.Pause.TheVariants as pause
use Rattle.rtp_wire.specs.declared.frames.FrameEnd.{FrameEnd}
use Rattle.rtp_wire.specs.declared.frames.FrameEnd.TheVariants.{End, Cut, Fault, Limit}

-- by whether it was between two frames, and by the octets taken in all
abbrev pub end_for : Pause → (is_between : Bool) → (taken : ℕ) → FrameEnd
end_for pause.Limit is_between taken = Limit
end_for pause.End true taken = End
end_for pause.End false taken = Cut taken
end_for pause.Fault is_between taken = Fault
