-- The entry that the code holds as its bytes.
use Rattle.page.specs.Content.{Entry}
use Rattle.page_build.specs.declared.fresh.Fresh.{Fresh}
use Rattle.page_build.specs.Fresh.{fresh_entry}

abbrev pub entry_in : Fresh → Entry
entry_in f = fresh_entry f.branch f.len f.bytes
