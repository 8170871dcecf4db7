-- The flat answers that C gets: number, place and values of what is said.
use Rattle.std.specs.Prelude.{ℕ, get_or, pos, Float}
use Rattle.std.specs.Float.{binary64}
use Rattle.std.specs.Float.Ieee.{of_int}
use Rattle.grid.specs.Said.{Said, value}
use Rattle.quailribbon.specs.declared.flat.QrReading.{QrReading}
use Rattle.quailribbon.specs.declared.flat.QrXyz.{QrXyz}
use Rattle.quailribbon.specs.declared.flat.QrXy.{QrXy}
use Rattle.quailribbon.specs.declared.flat.QrUv.{QrUv}
use Rattle.quailribbon.specs.declared.flat.QrChart.{QrChart}
use Rattle.quailribbon.specs.declared.flat.QrFigures.{QrFigures}
use Rattle.quailribbon.specs.declared.flat.QrPanelFigures.{QrPanelFigures}

abbrev pub flat_reading : Said → QrReading
flat_reading said = record { number = said.number; place = said.place; value = value said 0 }

abbrev pub flat_xyz : Said → QrXyz
flat_xyz said =
    record { number = said.number; place = said.place; x = value said 0; y = value said 1; z = value said 2 }

abbrev pub flat_xy : Said → QrXy
flat_xy said = record { number = said.number; place = said.place; x = value said 0; y = value said 1 }

abbrev pub flat_uv : Said → QrUv
flat_uv said = record { number = said.number; place = said.place; u = value said 0; v = value said 1 }

-- 0.0
abbrev pub zero_float : Float
zero_float = of_int binary64 (pos 0)

-- float i of what is said, 0.0 where it isn't given
abbrev pub float : Said → ℕ → Float
float said i = get_or said.floats i zero_float

abbrev pub flat_chart : Said → QrChart
flat_chart said =
    record {
      number = said.number;
      place = said.place;
      x = float said 0;
      y = float said 1;
      u = float said 2;
      v = float said 3;
    }

abbrev pub flat_figures : Said → QrFigures
flat_figures said =
    record {
      number = said.number;
      place = said.place;
      photopic = value said 0;
      scotopic = value said 1;
      xyz_x = value said 2;
      xyz_y = value said 3;
      xyz_z = value said 4;
      xy_number = value said 5;
      x = value said 6;
      y = value said 7;
    }

abbrev pub flat_panel_figures : Said → QrPanelFigures
flat_panel_figures said =
    record {
      number = said.number;
      place = said.place;
      xyz_x = value said 0;
      xyz_y = value said 1;
      xyz_z = value said 2;
      xy_number = value said 3;
      x = value said 4;
      y = value said 5;
    }
