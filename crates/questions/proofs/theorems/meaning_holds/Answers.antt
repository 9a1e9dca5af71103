use Rattle.questions.proofs.Meaning.{read_exactly, simple_exactly}
use Rattle.questions.proofs.theorems.meaning_holds.Goals as goal

pub returns : goal.returns
returns c = record { read = read_exactly; simple = simple_exactly }
