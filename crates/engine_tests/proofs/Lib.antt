mod SamplesFit
mod TowersFit
