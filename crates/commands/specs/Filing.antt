-- The commands that read and write the rule file.
-- Assumes nothing.
use Rattle.std.specs.Prelude.{cond, ℕ, List, length, take, replicate, leb, eqb}
use Rattle.rules.specs.Refusals.{declined}
use Rattle.image.specs.Image.{Edited, outcome}
use Rattle.file.specs.Loading.{loaded, Filed, filing, filed, ruleset_in}
use Rattle.rules.specs.Refusals.{Report, wrote, refused}
use Rattle.file_format.specs.File.{encode}
use Rattle.file_format.specs.Layout.{max_input}
use Rattle.lines.specs.Printed.{refused_body, printed}
use Rattle.file_format.specs.Layout.{longest_file}
use Rattle.command_parts.specs.Fields.{four, lent_of, back}
use Rattle.command_parts.specs.Answers.{Effect, ruled, sized_to, malformed_line}

-- rules.hex read into the ruleset; over 32,768 bytes are refused
unfoldable pub loaded_from : List ℕ → List ℕ → Edited
loaded_from file image = cond (leb (length file) max_input) (loaded file image) (outcome (declined 13 max_input) image)

-- 13: read rules.hex; a refused file leaves the ruleset
unfoldable pub loaded_by : List ℕ → List ℕ → List ℕ → Effect
loaded_by f file image = sized_to (eqb (length f) 1) (ruled (loaded_from file image)) image

abbrev pub filed_back : ℕ → List ℕ → Filed → Filed
filed_back n out b = filing b.report (back n b.bytes out)

-- the file written into the first n bytes
unfoldable pub filed_in : ℕ → List ℕ → List ℕ → Filed
filed_in n image out = filed_back n out (filed image (take n out))

-- the file's lines as they are, or the refusal
abbrev pub report_line : Report → List ℕ → List ℕ
report_line (wrote n) text = text
report_line (refused n p) text = printed (refused_body n p)

-- the file where so many bytes are lent
unfoldable pub file_line : ℕ → List ℕ → List ℕ
file_line room image = report_line (filed image (replicate room 0)).report (encode (ruleset_in image))

-- 14, lent bytes (4; more than the longest file has count as that many): write
unfoldable pub write_line : List ℕ → List ℕ → List ℕ
write_line f image = cond (eqb (length f) 5) (file_line (lent_of (four 1 f) longest_file) image) malformed_line
