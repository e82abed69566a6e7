-- The pages that a record changes, each with the position of the record that changed it last; 0 for a page that is new.
use Rattle.std.specs.Prelude.{ℕ, cond, Some, None, Option, ◌==◌}
use Rattle.record.specs.Contents.{Content, format, put, remove, foster, adopt, grow}

abbrev pub page_in : Content → ℕ × ℕ
page_in format = (0, 0)
page_in (put page previous key value) = (page, previous)
page_in (remove page previous key) = (page, previous)
page_in (foster page previous other key) = (page, previous)
page_in (adopt page previous other other_previous child key) = (page, previous)
page_in (grow previous other) = (0, previous)

abbrev pub other_in : Content → Option (ℕ × ℕ)
other_in format = None
other_in (put page previous key value) = None
other_in (remove page previous key) = None
other_in (foster page previous other key) = Some (other, 0)
other_in (adopt page previous other other_previous child key) = Some (other, other_previous)
other_in (grow previous other) = Some (other, 0)

-- the position before, of a page that a record changes
abbrev pub previous_at : ℕ → ℕ × ℕ → Option (ℕ × ℕ) → Option ℕ
previous_at page first None = cond (page == first.0) (Some first.1) None
previous_at page first (Some second) = cond (page == first.0) (Some first.1) (cond (page == second.0) (Some second.1) None)

abbrev pub previous_in : ℕ → Content → Option ℕ
previous_in page c = previous_at page (page_in c) (other_in c)
