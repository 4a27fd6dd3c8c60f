-- How an answer is told (this project's choice).
use Rattle.std.specs.Prelude.{ℕ, List, Option, Result, Ok, Err}
use Rattle.std.specs.declared.alloc.AllocError.{AllocError}
use Rattle.sw_text.specs.declared.answer.ByteAnswer.{ByteAnswer}
use Rattle.sw_text.specs.declared.write_answer.Ended.{Ended}
use Rattle.sw_text.specs.Ends.{IsMemoryTold, IsTold}

-- the answer was told, or that memory was wanted
abbrev pub IsAnswerTold : Result ByteAnswer AllocError → Option (List ℕ) → Option (List ℕ) → Ended → Type 0
IsAnswerTold (Ok answer) old new ended = IsTold old new answer.text.items answer.status ended
IsAnswerTold (Err none) old new ended = IsMemoryTold old new ended
