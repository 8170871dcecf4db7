-- The flat answers that C gets of reading, writing and reporting a record.
use Rattle.grid.specs.Said.{Said, value}
use Rattle.quailribbon.specs.declared.flat.QrRecord.{QrRecord}
use Rattle.quailribbon.specs.declared.flat.QrWritten.{QrWritten}

abbrev pub flat_record : Said → QrRecord
flat_record said =
    record { number = said.number; place = said.place; start = value said 0; step = value said 1; count = value said 2 }

abbrev pub flat_written : Said → QrWritten
flat_written said = record { number = said.number; place = said.place; length = value said 0 }
