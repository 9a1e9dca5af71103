-- Which questions are turned away, and with which refusal. Assumes nothing: these are definitions.
use Rattle.std.specs.Prelude.{ℕ, List, [], Some, None, Ok, Err, Option, Result}
use Rattle.registers.specs.declared.refusals.Refusal.{Refusal as RegistersRefusal}
use Rattle.registers.specs.Layout.{columns_of}
use Rattle.registers.specs.Refusals.{number as registers_number, or_else, place as registers_place, refusal}
use Rattle.questions.specs.declared.refusals.Refusal.{Refusal}
use Rattle.questions.specs.declared.refusals.Refusal.TheVariants.{Registers, Signs, Twice}
use Rattle.questions.specs.Questions.{Question, goes_to, first_again}
use Rattle.questions.specs.Signs.{Reading, read, stuck, asked}

-- the number of each refusal; that of registers keeps its own
abbrev pub number : Refusal → ℕ
number (Registers r) = registers_number r
number (Signs s) = 3
number (Twice t) = 4

-- its place: that of the registers' refusal, the sign or 8 where there are more than eight, or the register
abbrev pub place : Refusal → ℕ
place (Registers r) = registers_place r
place (Signs s) = s
place (Twice t) = t

-- an answer, or the refusal in its place
abbrev pub answered : {A : Type 0} → Option Refusal → A → Result A Refusal
answered None a = Ok a
answered (Some e) a = Err e

abbrev pub refused_at : (ℕ → Refusal) → Option ℕ → Option Refusal
refused_at f None = None
refused_at f (Some t) = Some (f t)

-- the refusal of registers is one of registers and signs
abbrev pub of_registers : Option RegistersRefusal → Option Refusal
of_registers None = None
of_registers (Some r) = Some (Registers r)

-- what cannot be read is refused, and a question that goes to a register twice
abbrev pub refused : Reading Question → Option Refusal
refused (stuck s) = Some (Signs s)
refused (read q e) = refused_at Twice (first_again [] (goes_to q))

-- the refusal of signs over registers of so many columns each
unfoldable pub signs_refusal : (widths xs : List ℕ) → Option Refusal
signs_refusal widths xs = refused (asked widths xs)

-- the refusal of registers and signs: that of the registers is told first
unfoldable pub refusal_of : (base signs : List ℕ) → Option Refusal
refusal_of base signs = or_else (of_registers (refusal base)) (signs_refusal (columns_of base) signs)
