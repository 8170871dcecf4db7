-- Every function that a caller outside can reach is determined, on every input: two results that its contract allows for
-- the same arguments are equal, and so are two states in which it may leave what was lent.
use mathlib.Core.Path.{◌≡◌, ◌∙◌, sym}
use mathlib.Core.List.{List}
use Prim.Native.Nat.{ℕ}
use Rattle.readings.proofs.photopic.Reads as photopic
use Rattle.readings.proofs.scotopic.Reads as scotopic
use Rattle.readings.proofs.photopic_10.Reads as photopic_10
use Rattle.readings.proofs.mesopic.Reads as mesopic
use Rattle.readings.proofs.research.Reads as research
use Rattle.readings.proofs.colour.xyz.Reads as xyz
use Rattle.readings.proofs.colour.xy.Reads as xy
use Rattle.readings.proofs.colour.uv.Reads as uv
use Rattle.readings.proofs.colour.chart.Reads as chart
use Rattle.readings.proofs.figures.figures.Reads as figures
use Rattle.panel.proofs.panel_figures.Reads as panel_figures
use Rattle.panel.proofs.panel_xyz.Reads as panel_xyz
use Rattle.panel.proofs.panel_xy.Reads as panel_xy
use Rattle.panel.proofs.panel_uv.Reads as panel_uv
use Rattle.panel.proofs.panel_chart.Reads as panel_chart
use Rattle.record.proofs.read_record.Reads as read_record
use Rattle.record.proofs.unpack_record.Reads as unpack_record
use Rattle.record.proofs.write_record.Reads as write_record
use Rattle.page.proofs.write_report.Reads as write_report
use Rattle.quailribbon.proofs.flatten.QrReadingFromResultU32Refusal.from.Reads as flat_reading
use Rattle.quailribbon.proofs.flatten.QrXyzFromResultXyzRefusal.from.Reads as flat_xyz
use Rattle.quailribbon.proofs.flatten.QrXyFromResultXyRefusal.from.Reads as flat_xy
use Rattle.quailribbon.proofs.flatten.QrUvFromResultUvRefusal.from.Reads as flat_uv
use Rattle.quailribbon.proofs.flatten.QrChartFromChartPoint.from.Reads as flat_point
use Rattle.quailribbon.proofs.flatten.QrChartFromResultOnChartRefusal.from.Reads as flat_chart
use Rattle.quailribbon.proofs.flatten.QrFiguresFromResultReportFiguresRefusal.from.Reads as flat_figures
use Rattle.quailribbon.proofs.flatten.QrPanelFiguresFromResultPanelFiguresRefusal.from.Reads as flat_panel_figures
use Rattle.quailribbon.proofs.flatten.QrRecordFromResultHeaderRefusal.from.Reads as flat_record
use Rattle.quailribbon.proofs.flatten.QrWrittenFromResultU32Refusal.from.Reads as flat_written
use Rattle.quailribbon.proofs.lights.qr_photopic.Reads as qr_photopic
use Rattle.quailribbon.proofs.lights.qr_scotopic.Reads as qr_scotopic
use Rattle.quailribbon.proofs.lights.qr_photopic_10.Reads as qr_photopic_10
use Rattle.quailribbon.proofs.lights.qr_mesopic.Reads as qr_mesopic
use Rattle.quailribbon.proofs.lights.qr_research.Reads as qr_research
use Rattle.quailribbon.proofs.lights.qr_xyz.Reads as qr_xyz
use Rattle.quailribbon.proofs.lights.qr_xy.Reads as qr_xy
use Rattle.quailribbon.proofs.lights.qr_uv.Reads as qr_uv
use Rattle.quailribbon.proofs.lights.qr_chart.Reads as qr_chart
use Rattle.quailribbon.proofs.lights.qr_figures.Reads as qr_figures
use Rattle.quailribbon.proofs.panels.qr_panel_xyz.Reads as qr_panel_xyz
use Rattle.quailribbon.proofs.panels.qr_panel_xy.Reads as qr_panel_xy
use Rattle.quailribbon.proofs.panels.qr_panel_uv.Reads as qr_panel_uv
use Rattle.quailribbon.proofs.panels.qr_panel_chart.Reads as qr_panel_chart
use Rattle.quailribbon.proofs.panels.qr_panel_figures.Reads as qr_panel_figures
use Rattle.quailribbon.proofs.records.qr_read_record.Reads as qr_read_record
use Rattle.quailribbon.proofs.records.qr_write_record.Reads as qr_write_record
use Rattle.quailribbon.proofs.records.qr_report.Reads as qr_report

-- a contract says of lifetimes, arguments, result and what is lent at exit whether it allows them;
-- of any two results that it allows for the same arguments, one is the other
abbrev pub OneResult : {K A R E : Type 0} → (K → A → R → E → Type 0) → Type 0
OneResult {K} {A} {R} {E} Allows =
    (k : K) (a : A) (r q : R) (e f : E) → Allows k a r e → Allows k a q f → r ≡ q

-- and so of any two states in which a lent row, bytes or text may be left
abbrev pub OneExit : {K A R E : Type 0} → (E → List ℕ) → (K → A → R → E → Type 0) → Type 0
OneExit {K} {A} {R} {E} lent Allows =
    (k : K) (a : A) (r q : R) (e f : E) → Allows k a r e → Allows k a q f → lent e ≡ lent f

-- two that equal the same definition are equal
pub same : {A : Type 0} {x y defined : A} → x ≡ defined → y ≡ defined → x ≡ y
same p q = p ∙ sym q

-- readings

one_photopic : OneResult photopic.Post
one_photopic k a r q e f p s = same p s

one_scotopic : OneResult scotopic.Post
one_scotopic k a r q e f p s = same p s

one_photopic_10 : OneResult photopic_10.Post
one_photopic_10 k a r q e f p s = same p s

one_mesopic : OneResult mesopic.Post
one_mesopic k a r q e f p s = same p s

one_research : OneResult research.Post
one_research k a r q e f p s = same p s

one_xyz : OneResult xyz.Post
one_xyz k a r q e f p s = same p s

one_xy : OneResult xy.Post
one_xy k a r q e f p s = same p s

one_uv : OneResult uv.Post
one_uv k a r q e f p s = same p s

one_chart : OneResult chart.Post
one_chart k a r q e f p s = same p s

one_figures : OneResult figures.Post
one_figures k a r q e f p s = same p s

-- panel

one_panel_xyz : OneResult panel_xyz.Post
one_panel_xyz k a r q e f p s = same p s

one_panel_xy : OneResult panel_xy.Post
one_panel_xy k a r q e f p s = same p s

one_panel_uv : OneResult panel_uv.Post
one_panel_uv k a r q e f p s = same p s

one_panel_chart : OneResult panel_chart.Post
one_panel_chart k a r q e f p s = same p s

one_panel_figures : OneResult panel_figures.Post
one_panel_figures k a r q e f p s = same p s

-- record: the result, and the lent row or bytes

one_read_record : OneResult read_record.Post
one_read_record k a r q e f p s = same p.0 s.0

left_read_record : OneExit (λ e. e.1.0.now) read_record.Post
left_read_record k a r q e f p s = same p.1 s.1

one_unpack_record : OneResult unpack_record.Post
one_unpack_record k a r q e f p s = same p.0 s.0

left_unpack_record : OneExit (λ e. e.1.0.now) unpack_record.Post
left_unpack_record k a r q e f p s = same p.1.0 s.1.0

one_write_record : OneResult write_record.Post
one_write_record k a r q e f p s = same p.0 s.0

left_write_record : OneExit (λ e. e.1.1.1.0.now) write_record.Post
left_write_record k a r q e f p s = same p.1 s.1

-- page: the result, and the lent text

one_write_report : OneResult write_report.Post
one_write_report k a r q e f p s = same p.0 s.0

left_write_report : OneExit (λ e. e.1.0.now) write_report.Post
left_write_report k a r q e f p s = same p.1 s.1

-- quailribbon

one_flat_reading : OneResult flat_reading.Post
one_flat_reading k a r q e f p s = same p s

one_flat_xyz : OneResult flat_xyz.Post
one_flat_xyz k a r q e f p s = same p s

one_flat_xy : OneResult flat_xy.Post
one_flat_xy k a r q e f p s = same p s

one_flat_uv : OneResult flat_uv.Post
one_flat_uv k a r q e f p s = same p s

one_flat_point : OneResult flat_point.Post
one_flat_point k a r q e f p s = same p s

one_flat_chart : OneResult flat_chart.Post
one_flat_chart k a r q e f p s = same p s

one_flat_figures : OneResult flat_figures.Post
one_flat_figures k a r q e f p s = same p s

one_flat_panel_figures : OneResult flat_panel_figures.Post
one_flat_panel_figures k a r q e f p s = same p s

one_flat_record : OneResult flat_record.Post
one_flat_record k a r q e f p s = same p s

one_flat_written : OneResult flat_written.Post
one_flat_written k a r q e f p s = same p s

one_qr_photopic : OneResult qr_photopic.Post
one_qr_photopic k a r q e f p s = same p s

one_qr_scotopic : OneResult qr_scotopic.Post
one_qr_scotopic k a r q e f p s = same p s

one_qr_photopic_10 : OneResult qr_photopic_10.Post
one_qr_photopic_10 k a r q e f p s = same p s

one_qr_mesopic : OneResult qr_mesopic.Post
one_qr_mesopic k a r q e f p s = same p s

one_qr_research : OneResult qr_research.Post
one_qr_research k a r q e f p s = same p s

one_qr_xyz : OneResult qr_xyz.Post
one_qr_xyz k a r q e f p s = same p s

one_qr_xy : OneResult qr_xy.Post
one_qr_xy k a r q e f p s = same p s

one_qr_uv : OneResult qr_uv.Post
one_qr_uv k a r q e f p s = same p s

one_qr_chart : OneResult qr_chart.Post
one_qr_chart k a r q e f p s = same p s

one_qr_figures : OneResult qr_figures.Post
one_qr_figures k a r q e f p s = same p s

one_qr_panel_xyz : OneResult qr_panel_xyz.Post
one_qr_panel_xyz k a r q e f p s = same p s

one_qr_panel_xy : OneResult qr_panel_xy.Post
one_qr_panel_xy k a r q e f p s = same p s

one_qr_panel_uv : OneResult qr_panel_uv.Post
one_qr_panel_uv k a r q e f p s = same p s

one_qr_panel_chart : OneResult qr_panel_chart.Post
one_qr_panel_chart k a r q e f p s = same p s

one_qr_panel_figures : OneResult qr_panel_figures.Post
one_qr_panel_figures k a r q e f p s = same p s

one_qr_read_record : OneResult qr_read_record.Post
one_qr_read_record k a r q e f p s = same p.0 s.0

left_qr_read_record : OneExit (λ e. e.1.0.now) qr_read_record.Post
left_qr_read_record k a r q e f p s = same p.1 s.1

one_qr_write_record : OneResult qr_write_record.Post
one_qr_write_record k a r q e f p s = same p.0 s.0

left_qr_write_record : OneExit (λ e. e.1.1.1.0.now) qr_write_record.Post
left_qr_write_record k a r q e f p s = same p.1 s.1

one_qr_report : OneResult qr_report.Post
one_qr_report k a r q e f p s = same p.0 s.0

left_qr_report : OneExit (λ e. e.1.0.now) qr_report.Post
left_qr_report k a r q e f p s = same p.1 s.1
