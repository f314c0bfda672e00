-- The history that a list of commands makes.
use Rattle.std.specs.Prelude.{List, [], ◌∷◌}
use Rattle.model.specs.History.{Call, enter, strike, clear, History}
use Rattle.recipes.specs.declared.replay.Command.{Command}
use Rattle.recipes.specs.declared.replay.Command.TheVariants.{Enter, Strike, Clear}

abbrev pub call_of : Command → Call
call_of (Enter line) = enter line.now
call_of (Strike line) = strike line.now
call_of Clear = clear

-- made in their order, after a history
abbrev pub making : List Command → History → History
making [] h = h
making (command ∷ commands) h = making commands (call_of command ∷ h)
