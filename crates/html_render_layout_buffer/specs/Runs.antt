-- A list of tags as runs: closed runs, each with its end and its tag, and a last run.
use Rattle.std.specs.Prelude.{◌≡◌, ℕ, ◌-◌, ◌≤◌, min, max, List, [], ◌∷◌, ◌++◌, Option, Some, None, replicate}
use Rattle.html_render_layout_buffer.specs.declared.runs.TagRun.{TagRun}

abbrev pub copies_of : {T : Type 0} → Option T → ℕ → List T
copies_of None n = []
copies_of (Some tag) n = replicate n tag

-- the tags from the place `s` to the place `n`: those of closed runs, and then those of the last run
abbrev pub tags_from : {T : Type 0} → ℕ → List (TagRun T) → Option T → ℕ → List T
tags_from s [] tag n = copies_of tag (n - s)
tags_from s (r ∷ rs) tag n = replicate (r.end - s) r.tag ++ tags_from r.end rs tag n

-- no run ends before the one in front of it, and without a last run the closed runs reach the end
abbrev pub AreRuns : {T : Type 0} → ℕ → List (TagRun T) → Option T → ℕ → Type 0
AreRuns s [] None n = s ≡ n
AreRuns s [] (Some tag) n = s ≤ n
AreRuns s (r ∷ rs) tag n = (s ≤ r.end) × AreRuns r.end rs tag n

-- the last run as a closed one
abbrev pub last_as_closed : {T : Type 0} → Option T → ℕ → List (TagRun T)
last_as_closed None n = []
last_as_closed (Some tag) n = record { end = n; tag = tag } ∷ []

-- the tags of runs from one place to another
abbrev pub tags_between : {T : Type 0} → (at to : ℕ) → List (TagRun T) → Option T → List T
tags_between at to [] tag = copies_of tag (to - at)
tags_between at to (r ∷ rs) tag = replicate (min r.end to - at) r.tag ++ tags_between (max at (min r.end to)) to rs tag
