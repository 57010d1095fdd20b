-- What is told on standard error where the system fails the program, in ASCII. Assumes nothing.
use Rattle.std.specs.Prelude.{ℕ, List, [], ◌∷◌, Option, Result, Ok, Err}
use Rattle.script.specs.declared.stream.Start.{Start}
use Rattle.script.specs.declared.stream.StreamError.{StreamError}
use Rattle.script.specs.declared.stream.StreamError.TheVariants.{CannotRead, CannotWrite}

-- "script: cannot read standard input" and a newline
abbrev pub cannot_read : List ℕ
cannot_read =
    115 ∷ 99 ∷ 114 ∷ 105 ∷ 112 ∷ 116 ∷ 58 ∷ 32 ∷ 99 ∷ 97 ∷ 110 ∷ 110 ∷ 111 ∷ 116 ∷ 32 ∷ 114 ∷ 101 ∷ 97 ∷ 100 ∷ 32 ∷ 115 ∷ 116 ∷ 97
    ∷ 110 ∷ 100 ∷ 97 ∷ 114 ∷ 100 ∷ 32 ∷ 105 ∷ 110 ∷ 112 ∷ 117 ∷ 116 ∷ 10 ∷ []

-- "script: cannot write standard output" and a newline
abbrev pub cannot_write : List ℕ
cannot_write =
    115 ∷ 99 ∷ 114 ∷ 105 ∷ 112 ∷ 116 ∷ 58 ∷ 32 ∷ 99 ∷ 97 ∷ 110 ∷ 110 ∷ 111 ∷ 116 ∷ 32 ∷ 119 ∷ 114 ∷ 105 ∷ 116 ∷ 101 ∷ 32 ∷ 115 ∷
    116 ∷ 97 ∷ 110 ∷ 100 ∷ 97 ∷ 114 ∷ 100 ∷ 32 ∷ 111 ∷ 117 ∷ 116 ∷ 112 ∷ 117 ∷ 116 ∷ 10 ∷ []

abbrev pub message_of : Result (Option Start) StreamError → List ℕ
message_of (Ok ended) = []
message_of (Err CannotRead) = cannot_read
message_of (Err CannotWrite) = cannot_write
