-- Lines of output: words with a space between each two.
pub use Rattle.sw_text.specs.Lines.{line, spaced}
