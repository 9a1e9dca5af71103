-- In which words a program tells why it ends without an answer. Assumes nothing: these are definitions.
use Rattle.std.specs.Prelude.{ℕ, List, ◌++◌, codes, Option, Some, None}
use Rattle.program.specs.declared.failure.Failure.{Failure}
use Rattle.program.specs.declared.failure.Failure.TheVariants.{Usage, Arguments, File, Stdin, Output}

-- a failure in words; none where the words end with an error of the system, since what that prints is not stated
abbrev pub failure_words : Failure → Option (List ℕ)
failure_words (Usage program) = Some (codes "more than one argument; usage: " ++ program.now ++ codes " [FILE]")
failure_words (Arguments reason) = None
failure_words (File name reason) = None
failure_words (Stdin reason) = None
failure_words (Output reason) = None
