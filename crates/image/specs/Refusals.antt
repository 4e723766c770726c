-- The number of each refusal of an image, the values that go with it, and its reason in plain words.
use Rattle.std.specs.Prelude.{ℕ, List, [], ◌∷◌, Some, None, Option, ◌==◌, if◌then◌else◌, codes}
use Rattle.image.specs.declared.Refusal.{Refusal}
use Rattle.image.specs.declared.Refusal.TheVariants as refusals
use Rattle.image.specs.declared.header.HeaderWord.{HeaderWord}
use Rattle.image.specs.declared.header.HeaderWord.TheVariants as header_words
use Rattle.image.specs.Questions.{No}

-- the header words, numbered in their order
abbrev pub position : HeaderWord → ℕ
position header_words.Words = 0
position header_words.Text = 1
position header_words.Given = 2
position header_words.Entry = 3
position header_words.Period = 4
position header_words.Outputs = 5
position header_words.Limit = 6

-- the header word at a place, from 0; there are seven
abbrev pub header_word : ℕ → Option HeaderWord
header_word k =
    if k == 0 then Some header_words.Words else
    if k == 1 then Some header_words.Text else
    if k == 2 then Some header_words.Given else
    if k == 3 then Some header_words.Entry else
    if k == 4 then Some header_words.Period else
    if k == 5 then Some header_words.Outputs else
    if k == 6 then Some header_words.Limit else
    None

abbrev pub number : Refusal → ℕ
number refusals.Length = 2
number (refusals.Header k) = 5
number refusals.Size = 6

-- of a header, the number of its first bad word
abbrev pub values : Refusal → List ℕ
values refusals.Length = []
values (refusals.Header k) = k ∷ []
values refusals.Size = []

abbrev pub as_no : Refusal → No
as_no e = (number e, values e)

-- what is wrong with a header word that breaks its rule
abbrev pub rule : HeaderWord → List ℕ
rule header_words.Words = codes "the memory size is not 1 to 16384 words"
rule header_words.Text = codes "the text size is 0 or above the memory size"
rule header_words.Given = codes "the memory words given are fewer than the text or more than the memory"
rule header_words.Entry = codes "the entry is not a multiple of 4 inside the text"
rule header_words.Period = codes "the watchdog period is not 1 to 65535 instructions"
rule header_words.Outputs = codes "the most outputs are above 16384"
rule header_words.Limit = codes "the most instructions are 0"

-- of any number, also one that no header word has
abbrev pub rule_of : Option HeaderWord → List ℕ
rule_of (Some w) = rule w
rule_of None = codes "a header word breaks its rule"

abbrev pub reason : Refusal → List ℕ
reason refusals.Length = codes "the length is not a multiple of 4, or less than 28 bytes"
reason (refusals.Header k) = rule_of (header_word k)
reason refusals.Size = codes "the length is not 28 bytes and 4 for each memory word given"
