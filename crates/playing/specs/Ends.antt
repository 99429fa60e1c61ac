-- How a path ends, as the program's answer has it. Document 01, "000"; document 02, order 8.
use Rattle.rules.specs.Step.{Answer, refused, given}
use Rattle.refusals.specs.Number.{number_of}
use Rattle.rules.specs.Run.{End, quiet, spent, reached, halted}
use Rattle.playing.specs.declared.PathEnd.{PathEnd}
use Rattle.playing.specs.declared.PathEnd.TheVariants.{Quiet, Spent, Reached, Halted, Refused}

-- "the end quiet, spent or else reached", halted where a number of steps is named (document 02, order 8), or a refusal's number
abbrev pub end_of : PathEnd → Answer End
end_of Quiet = given quiet
end_of Spent = given spent
end_of Reached = given reached
end_of Halted = given halted
end_of (Refused c) = refused (number_of c)
