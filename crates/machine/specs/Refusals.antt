-- The number of each refusal of the machine, its values, and its reason in plain words; and the questions that give them, in order.
use Rattle.std.specs.Prelude.{ℕ, ◌&&◌, List, [], ◌∷◌, ◌++◌, Option, nat_le, codes}
use Rattle.image.specs.Questions.{No, Question, first_no}
use Rattle.image.specs.Image.{header, image_questions}
use Rattle.image.specs.Refusals as image
use Rattle.machine.specs.declared.Refusal.{Refusal}
use Rattle.machine.specs.declared.Refusal.TheVariants.{Image, TooSmall}

abbrev pub number : Refusal → ℕ
number (Image e) = image.number e
number TooSmall = 7

abbrev pub values : Refusal → List ℕ
values (Image e) = image.values e
values TooSmall = []

abbrev pub as_no : Refusal → No
as_no e = (number e, values e)

abbrev pub reason : Refusal → List ℕ
reason (Image e) = image.reason e
reason TooSmall = codes "a memory has too few words for the image"

-- the memory has the image's words, and the log its outputs
abbrev pub memories_question : List ℕ → ℕ → ℕ → Question
memories_question bs words log = (nat_le (header bs).words words && nat_le (header bs).outputs log, (7, []))

-- why the bytes are refused over a memory and a log of so many words, none where they are not
unfoldable pub load_refusal : List ℕ → ℕ → ℕ → Option No
load_refusal bs words log = first_no (image_questions bs ++ memories_question bs words log ∷ [])
