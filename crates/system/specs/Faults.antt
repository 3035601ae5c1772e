-- What an output says of itself. Assumes nothing.
use Rattle.std.specs.Prelude.{Option}
use Rattle.std.specs.declared.io.Error.{Error}
use Rattle.system.specs.declared.Output.{Output}

-- the fault of what was written since it was last asked for, where there was one
abbrev pub fault_of : Output → Option Error
fault_of o = o.fault
